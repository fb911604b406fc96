use Rattle.std.proofs.Common.{◌∷◌, take}
use Rattle.ddt_commands.specs.Sockets.{AreBound, Binds}
use Rattle.ddt_commands.proofs.sockets.bind_all.Given as goal

-- the first and those before this one are bound
abbrev pub invariant-loop-at : goal.invariant-loop-at
invariant-loop-at g l = AreBound (Binds g.B.Fn l.bind) l.fn.wires (l.fn.first ∷ take l.at-index l.others) l.wires
