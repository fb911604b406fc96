use Rattle.std.proofs.Common.{◌≡◌, Err, rules, ◌∙◌}
use Rattle.ddt_commands.proofs.LookupLemmas.{first_bad, passed, spelled_more}
use Rattle.ddt_commands.proofs.resolver.identifiers_in.Goals as goal

pub returns-in_err-x-clause-bad : goal.returns-in_err-x-clause-bad
returns-in_err-x-clause-bad c =
    let e : c.from_residual.result ≡ Err c.in_err-x.field-0.0 = search rules in
    rw e (c.loop-word.invariant.good ∙ first_bad c.args.words.now c.loop-word.word-index _ _ c.loop-word-test.true c.in_err-x.ensures.refused)

pub loop-word-preserved : goal.loop-word-preserved
loop-word-preserved c = record {
  good = c.loop-word.invariant.good ∙ passed c.args.words.now c.loop-word.word-index _ _ c.loop-word-test.true c.in_ok-x.ensures.found;
  spelled = spelled_more c.args.words.now c.loop-word.word-index _ _ c.loop-word.has_room _ c.loop-word.ids.items _ c.loop-word-test.true
      c.loop-word.invariant.spelled c.in_ok-x.ensures.found
      (rw c.is_ok-has_room.ensures.value c.push.ensures.items);
}
