use Rattle.std.proofs.Common.{Bool, ◌||◌, Option, Some, sym, ap, ◌∙◌}
use Rattle.std.specs.Option.{option_copied}
use Rattle.std.specs.Ordering.{nat_cmp}
use Rattle.std.specs.Cmp.Lexicographic.{slice_cmp}
use Rattle.std.specs.BTreeSet.{contains}
use Rattle.ddt_register.specs.declared.zone.Zone.{Zone}
use Rattle.ddt_review.specs.Warnings.Found.{is_marked}
use Rattle.ddt_review.proofs.WarningsLemmas.MarkLemmas.{inserted_now}
use Rattle.ddt_review.proofs.warnings.children.mark.Goals as goal

pub returns-in_ok-insert-in-Some : goal.returns-in_ok-insert-in-Some
returns-in_ok-insert-in-Some c = λ p.
    c.in_ok-insert-in-Some.ensures.updates.0 p
    ∙ inserted_now p c.in-Some.zone.now.prefix (contains (slice_cmp nat_cmp) c.args.marks.now p)
    ∙ ap (λ (b : Bool). contains (slice_cmp nat_cmp) c.args.marks.now p || is_marked (Some c.in-Some.zone.now) b p) (sym c.if-is_wanted.true)
    ∙ ap (λ (o : Option Zone). contains (slice_cmp nat_cmp) c.args.marks.now p || is_marked o c.args.is_wanted p) (ap option_copied (sym c.in-Some.is))
