use Rattle.std.proofs.Common.{ℕ, Bool, Option, Some, cond, sym, ap, ◌∙◌}
use Rattle.std.specs.Ordering.{nat_cmp}
use Rattle.std.specs.Cmp.Lexicographic.{slice_cmp, texts_ties}
use Rattle.std.specs.BTreeMap.{get}
use Rattle.ddt_path.specs.Covers.{is_same_path}
use Rattle.ddt_deploy.specs.Rollout.Waits.{put_if}
use Rattle.ddt_deploy.proofs.rollout.lost_zone_waits.put_waits.Goals as goal

pub returns-in_ok-insert-in-Some : goal.returns-in_ok-insert-in-Some
returns-in_ok-insert-in-Some c = λ p.
    c.in_ok-insert-in-Some.ensures.updates.0 p
    ∙ ap (λ (b : Bool). cond b (Some c.in-Some.count) (get (slice_cmp nat_cmp) c.args.waits.now p))
    (sym (texts_ties c.args.prefix p))
    ∙ ap (λ (o : Option ℕ). put_if o (is_same_path c.args.prefix p) (get (slice_cmp nat_cmp) c.args.waits.now p))
    (sym c.in-Some.is ∙ c.waits_at.ensures)
