use Rattle.std.proofs.Common.{◌≡◌, ◌++◌, ℕ, List, append_assoc, refl}
use Rattle.ddt_plan_commands.specs.Summary.{extents_text}
use Rattle.ddt_plan_commands.proofs.summary.push_extents.Goals as goal

three_lines : (a b c d s t u : List ℕ) → s ≡ a ++ b → t ≡ s ++ c → u ≡ t ++ d → u ≡ a ++ ((b ++ c) ++ d)
three_lines a b c d s t u e f g = rw (g, f, e) (simp append_assoc refl)

pub returns : goal.returns
returns c = unfold extents_text in three_lines _ _ _ _ _ _ _ c.in_ok-push_extent.ensures c.in_ok-push_extent-2.ensures c.in_ok-push_extent-3.ensures
