use Rattle.std.proofs.Common.{arith, sym, ◌∙◌, length}
use Rattle.std.proofs.lemmas.Bool.{lt-leb}
use Rattle.ddt_path.specs.Path.{xeid_path}
use Rattle.ddt_path.specs.laws.Prefix.{covers_shorter, covers_longer}
use Rattle.ddt_path.proofs.prefix.Prefix.covers.Goals as goal

pub returns-then-len : goal.returns-then-len
returns-then-len c =
    rw (c.len-then-len.ensures.digits, c.shared.ensures)
    (sym (covers_shorter c.args.self c.args.other (xeid_path c.inner.result) (xeid_path c.inner-then-len.result) c.inner.ensures.front c.inner.ensures.fits c.inner-then-len.ensures.front (omega arith)))

pub returns-else-len : goal.returns-else-len
returns-else-len c = rw (c.len.ensures.digits, c.len-2.ensures.digits) (lt-leb (length c.args.self) (length c.args.other) (omega arith) ∙ sym (covers_longer c.args.self c.args.other (omega arith)))
