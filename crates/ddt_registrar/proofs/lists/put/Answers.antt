use Rattle.std.proofs.Common.{sym}
use Rattle.ddt_registrar.proofs.ListLemmas.{put_there, put_last}
use Rattle.ddt_registrar.proofs.lists.put.Goals as goal

pub returns-in-Some : goal.returns-in-Some
returns-in-Some g c =
    put_there (λ (old : _). g.T.Keyed.same old c.args.new) c.args.new c.args.items.now.items c.in-Some.at (sym (rw c.as_slice.ensures.value at c.in-Some.ensures))

pub returns-in-Ok : goal.returns-in-Ok
returns-in-Ok g c =
    rw (c.push_reserved.ensures.items, c.in-Ok.ensures.items, c.requires.empty)
    (put_last (λ (old : _). g.T.Keyed.same old c.args.new) c.args.new c.args.items.now.items (sym (rw c.as_slice.ensures.value at c.in-None.ensures)))
