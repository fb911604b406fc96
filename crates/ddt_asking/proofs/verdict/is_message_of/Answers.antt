use Rattle.std.proofs.Common.{rules}
use Rattle.ddt_asking.proofs.verdict.is_message_of.Goals as goal

pub returns-then-is_same_record : goal.returns-then-is_same_record
returns-then-is_same_record c = search rules
