-- The numbers that the program's process ends with: those of `diff`.
use Rattle.std.specs.Prelude.{ℕ, Bool, true, false}
use Rattle.ddt_plan_commands.specs.declared.exit_status.ExitStatus.{ExitStatus}
use Rattle.ddt_plan_commands.specs.declared.exit_status.ExitStatus.TheVariants.{Answered, Different, Refused, Unprinted}

-- 0 where nothing differs, 1 where something does, 2 for trouble
abbrev pub number_of : ExitStatus → ℕ
number_of Answered = 0
number_of Different = 1
number_of Refused = 2
number_of Unprinted = 2

-- how a comparison ends, by whether anything differs
abbrev pub diff_end : Bool → ExitStatus
diff_end false = Answered
diff_end true = Different
