use Rattle.std.proofs.Common.{◌≡◌, ◌++◌, take}
use Rattle.std.specs.List.{flat_map}
use Rattle.ddt_deploy.specs.Folders.Lines.{step_line}
use Rattle.ddt_deploy.proofs.folders.plan_lines.push_steps.Given as goal

abbrev pub invariant-loop-step : goal.invariant-loop-step
invariant-loop-step l = l.text.items ≡ l.fn.text.items ++ flat_map step_line (take l.step-index l.steps)
