use Rattle.std.proofs.Common.{◌≡◌, ◌∙◌, sym, ap, refl, true, false, ◌&&◌, Some, Option, Bool, List, drop, ◌+◌, ℕ}
use Rattle.std.specs.List.{filter}
use Rattle.std.specs.Option.{option_copied}
use Rattle.std.proofs.lemmas.Fn.{says_at}
use Rattle.ddt_path.specs.Covers.{covers}
use Rattle.ddt_path.specs.Matching.{best_match}
use Rattle.ddt_path.specs.laws.Matching.{best_of, best_of-next, best_of-passes, best_of-fails}
use Rattle.ddt_path.proofs.matches.best_match.Goals as goal
use Rattle.ddt_path.proofs.matches.best_match.Goals.{then-covers+then-test, else-covers, else-covers-via-then-covers+else-test, else-covers-via-else-covers}

and_false : (b c : Bool) → c ≡ false → (b && c) ≡ false
and_false true c e = e
and_false false c e = refl

pub loop-item-preserved : goal.loop-item-preserved
loop-item-preserved g c = λ passes h.
    let path = g.T.Prefixed.path in
    let items = c.args.items.now in
    let item = c.item-item.result in
    let left = best_match c.args.preference path (filter passes (drop (c.loop-item.item-index + 1) items)) c.args.x in
    let total = best_match c.args.preference path (filter passes items) c.args.x in
    let tested : covers (path item) c.args.x ≡ c.covers.result = ap (λ (p : List ℕ). covers p c.args.x) (sym c.prefix.ensures) ∙ sym c.covers.ensures in
    elim c.if-covers.branch [
      | then-covers+then-test w ↦
          let chosen : option_copied c.if-covers.best ≡ best_of c.args.preference path (option_copied c.loop-item.best) (Some item) =
          ap option_copied w.best-is ∙ ap (λ (i : g.row.T.Denot). Some i) w.better.ensures ∙ best_of-next c.args.preference path (option_copied c.loop-item.best) item in
          let good : passes item ≡ true = sym (h item w.test.result (says_at g.F.Fn w.test.ensures refl)) ∙ w.if-test.true in
          ap (λ (o : Option g.row.T.Denot). best_of c.args.preference path o left) chosen
          ∙ best_of-passes c.args.preference path passes items c.args.x c.loop-item.item-index item c.loop-item-test.true c.item-item.is (option_copied c.loop-item.best) total (tested ∙ w.if-covers.true) good (c.loop-item.invariant passes h)
      | else-covers w ↦
          let stays = best_of-fails c.args.preference path passes items c.args.x c.loop-item.item-index item c.loop-item-test.true c.item-item.is (option_copied c.loop-item.best) total in
          let fails : (covers (path item) c.args.x && passes item) ≡ false = elim w.else-covers.branch [
            | else-covers-via-then-covers+else-test v ↦ and_false (covers (path item) c.args.x) (passes item) (sym (h item v.test.result (says_at g.F.Fn v.test.ensures refl)) ∙ v.if-test.false)
            | else-covers-via-else-covers v ↦ ap (λ (b : Bool). b && passes item) (tested ∙ v.if-covers.false)
          ] in
          ap (λ (o : Option _). best_of c.args.preference path (option_copied o) left) w.best-is ∙ stays fails (c.loop-item.invariant passes h)
    ]
