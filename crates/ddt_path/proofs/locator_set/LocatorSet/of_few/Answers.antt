use Rattle.ddt_path.specs.declared.locator.Locator.TheVariants.{V4}
use Rattle.ddt_path.specs.Locators.{most_locators}
use Rattle.ddt_path.proofs.SlotLemmas.{IsFilled-copied, take-copied}
use Rattle.ddt_path.proofs.locator_set.LocatorSet.of_few.Goals as goal

pub invariant_of-result : goal.invariant_of-result
invariant_of-result c = IsFilled-copied most_locators (V4 0) c.args.locators.now c.copy_from_slice.new.self c.copy_from_slice.ensures.after c.requires

pub returns : goal.returns
returns c = take-copied most_locators (V4 0) c.args.locators.now c.copy_from_slice.new.self c.copy_from_slice.ensures.after
