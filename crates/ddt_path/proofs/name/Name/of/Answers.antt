use Rattle.std.proofs.Common.{ap, sym, ◌∙◌}
use Rattle.ddt_path.specs.Names.{is_name}
use Rattle.ddt_path.proofs.SlotLemmas.{IsFilled-copied, take-copied}
use Rattle.ddt_path.proofs.NameLemmas.{is_name-bound}
use Rattle.ddt_path.proofs.name.Name.of.Goals as goal

pub invariant_of-result : goal.invariant_of-result
invariant_of-result c =
    let bytes = c.args.bytes.now in
    let named = sym c.is_name.ensures ∙ c.if-not-is_name.false in
    let new = c.copy_from_slice.new.self in
    (IsFilled-copied 63 0 bytes new c.copy_from_slice.ensures.after (is_name-bound bytes named), ap is_name (take-copied 63 0 bytes new c.copy_from_slice.ensures.after) ∙ named)

pub returns : goal.returns
returns c = (sym c.is_name.ensures ∙ c.if-not-is_name.false, take-copied 63 0 c.args.bytes.now c.copy_from_slice.new.self c.copy_from_slice.ensures.after)
