use Rattle.std.proofs.Common.{◌++◌, List, ℕ, ap, ◌∙◌}
use Rattle.ddt_commands.proofs.LookupLemmas.{told_all, told_more, told_none}
use Rattle.ddt_commands.proofs.commands.lookup.look_up_each.Goals as goal

pub loop-x-init : goal.loop-x-init
loop-x-init c = record {
  stay = λ r compiled. compiled;
  sound = λ r compiled sound. sound;
  told = λ r compiled sound. told_none r c.time-now.result c.args.resolver.now c.whole-lines.result.complete c.whole-lines.result.text.items c.whole-lines.ensures.complete
      (rw c.whole-lines.ensures.text c.new.ensures.items);
}

pub loop-x-preserved : goal.loop-x-preserved
loop-x-preserved c =
    let so_far = c.loop-x.invariant in record {
      stay = λ r compiled. c.look_up.ensures.stay r (so_far.stay r compiled);
      sound = λ r compiled sound. c.look_up.ensures.sound r (so_far.stay r compiled) (so_far.sound r compiled sound);
      told = λ r compiled sound.
          told_more r c.time-now.result c.args.resolver.now c.args.ids.now c.loop-x.x-index _ c.loop-x.lines.complete c.in_ok-more.more.complete
          c.loop-x.lines.text.items c.in_ok-more.more.text.items _ c.loop-x.resolver c.look_up.new.resolver c.loop-x-test.true (so_far.told r compiled sound)
          (c.in_ok-more.ensures.told r (so_far.stay r compiled) (so_far.sound r compiled sound))
          (c.in_ok-extend_from_slice.ensures.items ∙ ap (λ (t : List ℕ). c.loop-x.lines.text.items ++ t) c.deref.ensures.value);
    }

pub returns : goal.returns
returns c = λ r compiled sound. (
  c.loop-x.resolver,
  told_all r c.time-now.result c.args.resolver.now.known.time c.args.resolver.now c.args.ids.now c.loop-x.x-index c.loop-x.lines.complete
      c.loop-x.lines.text.items c.loop-x.resolver c.time-now.ensures c.loop-x-test.false (c.loop-x.invariant.told r compiled sound),
)
