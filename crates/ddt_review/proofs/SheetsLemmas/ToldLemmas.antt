-- What is told of a file that spells a register.
use Rattle.std.proofs.Common.{◌≡◌, Result, Ok, List}
use Rattle.std.specs.Global.{Vec}
use Rattle.std.specs.declared.alloc.AllocError.{AllocError}
use Rattle.ddt_register.specs.declared.register.Register.{Register}
use Rattle.ddt_register.specs.declared.fault.ReadFault.{ReadFault}
use Rattle.ddt_register.specs.Spelled.{Lists}
use Rattle.ddt_review.specs.declared.sheets.broken_rule.BrokenRule.{BrokenRule}
use Rattle.ddt_review.specs.declared.sheets.fault_line.FaultKind.{FaultKind}
use Rattle.ddt_review.specs.Sheets.Told.{ReportsFaults, TellsBroken}

-- what is told of a register is told of a file that spells it
pub tells_spelled : (finds : Register → Result (Vec BrokenRule) AllocError → Type 0) (spelled : Result Lists ReadFault) (lists : Lists) (told : List FaultKind)
    → spelled ≡ Ok lists → TellsBroken finds lists told → ReportsFaults finds spelled told
tells_spelled finds spelled lists told is tells = rw is tells
