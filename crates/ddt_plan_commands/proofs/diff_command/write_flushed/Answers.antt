use Rattle.ddt_plan_commands.proofs.WriterLemmas.{front_kept, text_front, text_kept}
use Rattle.ddt_plan_commands.proofs.diff_command.write_flushed.Goals as goal

pub returns-in-Ok-clause-whole : goal.returns-in-Ok-clause-whole
returns-in-Ok-clause-whole g c = text_kept _ _ _ _ c.in_ok-differs.ensures.whole c.flush.ensures.bytes

pub returns-in-Ok-clause-front : goal.returns-in-Ok-clause-front
returns-in-Ok-clause-front g c =
    let whole = c.in_ok-differs.ensures.whole in
    text_front _ _ _ (text_kept _ _ _ _ (whole.0, (c.in_ok-differs.differs, whole.1), whole.2) c.flush.ensures.bytes)

pub returns-in-Err-clause-front : goal.returns-in-Err-clause-front
returns-in-Err-clause-front g c = front_kept _ _ _ _ c.in_ok-differs.ensures.front c.flush.ensures.bytes
