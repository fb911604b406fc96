use Rattle.std.proofs.Common.{◌≡◌, ℕ, true, List, length, subst}
use Rattle.ddt_path.specs.Covers.{covers}
use Rattle.ddt_path.specs.Path.{xeid_path}
use Rattle.ddt_path.specs.laws.Cover.{front_covered}
use Rattle.ddt_asking.proofs.identifiers.IdentifierSink.push.Goals as goal

pub returns : goal.returns
returns c =
    let x = c.inner.result in (
      x,
      subst (λ (p : List ℕ). covers p (xeid_path x) ≡ true) c.inner.ensures.front
          (front_covered (length c.args.prefix) (xeid_path x)),
      c.in_ok-push.ensures.items,
    )
