-- No two lists are the targets in label order. Assumes nothing.
use Rattle.std.proofs.Common.{◌≡◌, ◌<◌, true, false, List, length, get_or, sym, ap, ◌∙◌, subst, ⊎_elim, arith}
use Rattle.std.proofs.lemmas.List.{same_lists}
use Rattle.std.proofs.lemmas.Bool.{cases_eq}
use Rattle.kinds.specs.declared.targets.Target.{Target}
use Rattle.labels.specs.declared.Label.{Label}
use Rattle.labels.specs.Labels.{placed, earlier, rank, Stands, Labelled}
use Rattle.labels.proofs.Places.{length_placed}
use Rattle.labels.proofs.Counts.{count_less}
use Rattle.labels.proofs.Orders.{earlier_self, earlier_chain, one_earlier}

module _ (ts : List Target) where
  -- of two targets, the earlier has fewer before it
  rank_less : (x y : Label) → Stands ts x → earlier x y ≡ true → rank (placed 0 ts) x < rank (placed 0 ts) y
  rank_less x y s e =
      let within : x.position < length (placed 0 ts) = omega (arith, length_placed 0 ts, s.within) in
      let is = sym (s.there x) in
      count_less (λ z. earlier z x) (λ z. earlier z y) (λ z h. earlier_chain z x y h e) (placed 0 ts) x.position x within
      (subst (λ z. earlier z x ≡ false) is (earlier_self x))
      (subst (λ z. earlier z y ≡ true) is e)

  -- so targets with as many before them are one
  rank_one : (x y : Label) → Stands ts x → Stands ts y → rank (placed 0 ts) x ≡ rank (placed 0 ts) y → x ≡ y
  rank_one x y s t same =
      ⊎_elim
      (λ at. sym (s.there x) ∙ ap (λ p. get_or (placed 0 ts) p x) at ∙ t.there x)
      (λ apart. absurd (⊎_elim
      (λ e. let less = rank_less x y s e in omega arith)
      (λ e. let less = rank_less y x t e in omega arith)
      (one_earlier x y apart)))
      (cases_eq x.position y.position)

  pub one_order : (ls ms : List Label) → Labelled ts ls → Labelled ts ms → ls ≡ ms
  one_order ls ms a b =
      same_lists ls ms (a.long ∙ sym b.long)
      (λ k d h. let in-ts : k < length ts = omega (arith, a.long) in
      rank_one (get_or ls k d) (get_or ms k d) (a.stands k d in-ts) (b.stands k d in-ts) (a.ranked k d in-ts ∙ sym (b.ranked k d in-ts)))
