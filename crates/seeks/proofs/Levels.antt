-- The finger of a level in which a question is met. Assumes nothing.
use Rattle.std.proofs.Common.{◌≡◌, ℕ, suc, ◌+◌, ◌≤◌, true, false, List, [], ◌++◌, length, sym, ap, ◌∙◌, subst, append-nil, arith, length-append}
use Rattle.std.proofs.lemmas.List.{length-map}
use Rattle.kinds.specs.Algebra.{Algebra, Laws}
use Rattle.model.specs.Tree.{Node, Tree, single, front, back, items_node, run, items, count_run, count}
use Rattle.model.specs.Ends.{fingers}
use Rattle.model.specs.Append.{onto}
use Rattle.model.specs.Forms.{FormedNode, Digit, Formed}
use Rattle.model.specs.Measures.{Admitted, total, sum_run, sum}
use Rattle.model.specs.Statements.{Sound}
use Rattle.model.proofs.Forms.{count_node_is, count_run_is, count_is, run_some}
use Rattle.model.proofs.Totals.{WeighedEach, Weighed, admits_append, admits_run, admits, sound, weighed, sum_run_is, sum_is}
use Rattle.model.proofs.Popping.{fingers_formed, fingers_weighed, count_fingers}
use Rattle.model.proofs.Appending.{run_onto, all_onto}
use Rattle.model.proofs.Seeking.{seek_stops, seek_lands}
use Rattle.cells.specs.Cells.{node, nodes, rooted}
use Rattle.cells.specs.Fingers.{listed}
use Rattle.cells.specs.Made.{SeenDeep}
use Rattle.cells.specs.Made.{Weighed as Weighs}
use Rattle.cells.specs.declared.cell.Cell.{Cell}
use Rattle.cells.specs.declared.cell.Root.{Root}
use Rattle.cells.specs.declared.cell.Weight.{Weight}
use Rattle.cells.specs.declared.fingers.Digit.{Digit as Filled}
use Rattle.cells.proofs.Fours.{listed_length}
use Rattle.cells.proofs.Opened.{tree_none}
use Rattle.cells.proofs.Turned.{turned_nodes}
use Rattle.seeks.specs.Spots.{MetIn, Spotted, SpottedRun, SpottedTree}
use Rattle.seeks.specs.declared.spot.Spot.{Spot}
use Rattle.seeks.proofs.Meeting.{each_sound, Reached, added, met_here, met_first, met_below, fair_later, ends_later, met_later}

module _ {I T Q : Type 0} {k : Algebra I T Q} (laws : Laws k) (h : List (Cell I T)) (level : ℕ) (q : Q) (p : Weight T) (root : Root) where
  abbrev whole : Tree I T
  whole = rooted h level root

  -- a level of one finger
  pub spot_single : Formed level whole → (x : ℕ) → whole ≡ single (node h level x) → SpottedTree k h level q p whole (record { finger = x; passed = p })
  spot_single w x e =
      let v : FormedNode level (node h level x) = subst (Formed level) e w in
      subst (λ t. SpottedTree k h level q p t (record { finger = x; passed = p })) (sym e) (record {
        formed = v;
        within = omega (arith, count_node_is level (node h level x) v);
        right = λ s f i. met_here q p (node h level x) s f i;
      })

  module _ {f b : Filled} {m : Root} (seen : SeenDeep h level front root f m b) where
    abbrev F : List (Node I T)
    F = nodes h level (listed f)

    abbrev M : Tree I T
    M = rooted h (suc level) m

    abbrev B : List (Node I T)
    B = nodes h level (listed b)

    abbrev rest : List I
    rest = items M ++ run back B

    stored : Sound k whole → WeighedEach k F × (Weighed k M × WeighedEach k B)
    stored s = (subst (Weighed k) seen.is (weighed k whole s)).1

    admits_rest : Sound k whole → Admitted k rest
    admits_rest s = let w = stored s in admits_append k (items M) (run back B) (admits k M w.1.0) (admits_run k back B w.1.1)

    front_long : count_run F ≡ length (run front F)
    front_long = count_run_is front level F seen.near_formed

    middle_long : count M ≡ length (items M)
    middle_long = count_is (suc level) M seen.middle_formed

    front_digit : Digit level F
    front_digit =
        let l = listed_length f in
        let j : length F ≡ length (listed f) = simp length-map in
        (omega (arith, f.filled.0), (omega (arith, f.filled.1), seen.near_formed))

    -- of the items of the level in their parts
    opened : (r : Spot T) → Spotted k h level q p (Sound k whole) (run front F ++ rest) r → SpottedTree k h level q p whole r
    opened r o = subst (λ xs. Spotted k h level q p (Sound k whole) xs r) (sym (ap items seen.is)) o

    -- inside is the weight to the end of the front
    module _ (first inside : Weight T) (u : Weighs (sum_run k front F) (count_run F) first) (v : Weighs (k.joined p.total first.total) (p.items + first.items) inside) where
      reached_front : Sound k whole → Reached k p (run front F) inside
      reached_front s = added k p first inside u v (run front F) (sum_run_is laws front F (stored s).0) front_long

      pub in_front : true ≡ k.met inside.total q → (r : Spot T) → SpottedRun k h level q p F r → SpottedTree k h level q p whole r
      in_front y r o = opened r (record {
        formed = o.formed;
        within = omega (arith, o.within, length-append (run front F) rest);
        right = λ s fr i.
            let ends = sym (y ∙ ap (λ z. k.met z q) (reached_front s).total_is) in
            let w = (stored s).0 in
            met_first q p rest (seek_stops laws q p.items p.total (run front F) rest fr (admits_run k front F w) (run_some level F front_digit) ends) (o.right (each_sound k F w) fr ends);
      })

      -- after the front; up is the level below
      module _ (y : false ≡ k.met inside.total q) (up : ℕ) (step : suc level ≡ up) where
        beyond : (r : Spot T) → Spotted k h level q inside (Sound k whole) rest r → SpottedTree k h level q p whole r
        beyond r o = opened r (record {
          formed = o.formed;
          within = omega (arith, o.within, length-append (run front F) rest, u.items_are, v.items_are, front_long);
          right = λ s fr i.
              let a = admits_run k front F (stored s).0 in
              let t = reached_front s in
              met_later laws q p fr (run front F) rest a inside t (sym y)
              (o.right s (fair_later laws q p fr (run front F) rest a inside t) (ends_later laws q p fr (run front F) rest a inside t (admits_rest s) i));
        })

        -- past is the weight to the end of the middle
        module _ (inner past : Weight T) (c : Weighs (sum k (rooted h up m)) (count (rooted h up m)) inner) (d : Weighs (k.joined inside.total inner.total) (inside.items + inner.items) past) where
          weighs : Weighs (sum k M) (count M) inner
          weighs = subst (λ j. Weighs (sum k (rooted h j m)) (count (rooted h j m)) inner) (sym step) c

          reached_middle : Sound k whole → Reached k inside (items M) past
          reached_middle s = added k inside inner past weighs d (items M) (sum_is laws M (stored s).1.0) middle_long

          -- an empty middle adds nothing
          pub unmet_past : m.levels ≡ 0 → k.fair inside.total → false ≡ k.met past.total q
          unmet_past z fr =
              let none_there = ap (sum k) (tree_none h m.levels (suc level) m.at z) in
              y ∙ sym (ap (λ x. k.met x q) (d.total_is ∙ ap (k.joined inside.total) (weighs.total_is ∙ none_there) ∙ laws.right inside.total fr))

          pub in_back : (k.fair inside.total → false ≡ k.met past.total q) → (ps : List ℕ) → ps ≡ onto (listed b) [] → (r : Spot T) → SpottedRun k h level q past (nodes h level ps) r → SpottedTree k h level q p whole r
          in_back z ps o r g =
              let turned = turned_nodes h level (listed b) ps o in
              let here : run front (nodes h level ps) ≡ run back B = ap (run front) turned ∙ run_onto B [] ∙ append-nil _ in
              beyond r (record {
                formed = g.formed;
                within = omega (arith, g.within, ap length here, length-append (items M) (run back B), weighs.items_are, d.items_are, middle_long);
                right = λ s fr i.
                    let w = (stored s).1 in
                    let a = admits k M w.0 in
                    let t = reached_middle s in
                    let fp = fair_later laws q inside fr (items M) (run back B) a past t in
                    let ends = ends_later laws q inside fr (items M) (run back B) a past t (admits_run k back B w.1) i in
                    let sounds = each_sound k (nodes h level ps) (subst (WeighedEach k) (sym turned) (all_onto _ B [] w.1 tt)) in
                    let found = g.right sounds fp (ap (λ xs. k.met (k.joined past.total (total k xs)) q) here ∙ ends) in
                    met_later laws q inside fr (items M) (run back B) a past t (sym (z fr))
                    (subst (λ xs. MetIn k q past xs r.passed (node h level r.finger)) here found);
              })

          -- in a finger of the middle, and there in one of its parts
          module _ (below : Spot T) (found_below : SpottedTree k h up q inside (rooted h up m) below) (ps : List ℕ) (e : nodes h level ps ≡ fingers front (node h (suc level) below.finger)) where
            lower : SpottedTree k h (suc level) q inside M below
            lower = subst (λ j. SpottedTree k h j q inside (rooted h j m) below) (sym step) found_below

            pub below_fits : below.passed.items + count_run (nodes h level ps) ≤ p.items + count whole
            below_fits = omega (arith, lower.within, ap count_run e, count_fingers front level (node h (suc level) below.finger) lower.formed, middle_long, seen.counts, u.items_are, v.items_are)

            pub in_middle : true ≡ k.met past.total q → (r : Spot T) → SpottedRun k h level q below.passed (nodes h level ps) r → SpottedTree k h level q p whole r
            in_middle z r g =
                let a = node h (suc level) below.finger in
                let here : run front (nodes h level ps) ≡ items_node a = ap (run front) e ∙ (fingers_formed front level a lower.formed).1 in
                beyond r (record {
                  formed = g.formed;
                  within = omega (arith, g.within, lower.within, ap length here, count_node_is (suc level) a lower.formed, length-append (items M) (run back B));
                  right = λ s fr i.
                      let w = (stored s).1.0 in
                      let ends = sym (z ∙ ap (λ x. k.met x q) (reached_middle s).total_is) in
                      let there = lower.right (sound k M w) fr ends in
                      let sounds = each_sound k (nodes h level ps) (subst (WeighedEach k) (sym e) (fingers_weighed k front a (weighed k (single a) there.sound))) in
                      let found = g.right sounds there.fair (ap (λ xs. k.met (k.joined below.passed.total (total k xs)) q) here ∙ there.met) in
                      met_first q inside (run back B) (seek_lands laws q inside.items inside.total (items M) (run back B) fr (admits k M w) (sym y) ends).0
                      (met_below q inside there (subst (λ xs. MetIn k q below.passed xs r.passed (node h level r.finger)) here found));
                })
