use Rattle.ddt_register.specs.Spelled.{each_locator}
use Rattle.ddt_register.specs.declared.fault.ReadFault.TheVariants.{Address}
use Rattle.std.specs.List.{slice_split}
use Rattle.std.proofs.Common.{nat_eq}
use Rattle.ddt_register.proofs.LocatorLemmas.{PartsLeft}
use Rattle.ddt_register.proofs.csv_row.read_locators.Given as goal

abbrev pub invariant-loop-part : goal.invariant-loop-part
invariant-loop-part l = PartsLeft (goal.iterator-loop-part).next_gives l.part-iterator (Address l.row) l.locators.items (each_locator (Address l.row) (slice_split (λ b. nat_eq b 32) l.text))
