use Rattle.std.proofs.Common.{take}
use Rattle.ddt_register.specs.declared.register.Register.{Register}
use Rattle.ddt_sim.specs.Compiled.{AreCompiled}
use Rattle.ddt_sim.specs.Sound.{IsSound}
use Rattle.ddt_commands.specs.Commands.Lookup.{AreTold}
use Rattle.ddt_commands.proofs.commands.lookup.look_up_each.Given as goal

abbrev pub invariant-loop-x : goal.invariant-loop-x
invariant-loop-x l = record {
  stay : (r : Register) → AreCompiled l.fn.servers r → AreCompiled l.servers r;
  sound : (r : Register) → AreCompiled l.fn.servers r → IsSound r l.fn.resolver → IsSound r l.resolver;
  told : (r : Register) → AreCompiled l.fn.servers r → IsSound r l.fn.resolver
      → AreTold r l.now l.fn.resolver (take l.x-index l.ids) l.lines.complete l.lines.text.items l.resolver;
}
