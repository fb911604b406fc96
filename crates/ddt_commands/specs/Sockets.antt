-- Sockets of the wires, which are bound to locators one after the other.
use Rattle.std.specs.Prelude.{◌≡◌, List, [], ◌∷◌, ◌++◌, Result, Ok, Err}
use Rattle.std.specs.Borrow.{MutBor}
use Rattle.std.specs.Fn.{Shared}
use Rattle.std.specs.declared.io.Error.{Error}
use Rattle.std.specs.declared.io.ErrorKind.{ErrorKind}
use Rattle.std.specs.declared.io.ErrorKind.TheVariants as kind
use Rattle.ddt_path.specs.declared.locator.Locator.{Locator}
use Rattle.ddt_commands.specs.declared.refusal.Refusal.{Refusal}
use Rattle.ddt_commands.specs.declared.refusal.Refusal.TheVariants.{NoServer, OutOfMemory}
use Rattle.ddt_commands.specs.declared.refusal.server.ServerRefusal.TheVariants.{CannotBind}

-- what binds a socket: the wires before, the locator, the answer, the wires after
abbrev pub Binding : Type 0 → Type 1
Binding W = W → Locator → Result (Unit {0}) Error → W → Type 0

-- a call that binds a socket of the wires at a locator may answer this, and leave the wires so
pub record Binds {B W : Type 0}
    (g : Shared B (MutBor W × (Locator × Unit {0})) (Result (Unit {0}) Error × (MutBor W × Unit {0}))) (bind : B)
    (before : W) (at : Locator) (answer : Result (Unit {0}) Error) (after : W) : Type 0 where
  pub lent : MutBor W
  pub lends : lent.now ≡ before
  pub left : MutBor W
  pub leaves : left.now ≡ after
  pub met : g.post bind (lent, (at, tt)) (answer, (left, tt))

-- A socket was bound at each of these locators, in their order.
pub data AreBound {W : Type 0} (binds : Binding W) (before : W) : List Locator → W → Type 0 where
  none : AreBound binds before [] before
  one_more : {locators : List Locator} {between : W} (at : Locator) (after : W)
      → AreBound binds before locators between → binds between at (Ok tt) after
      → AreBound binds before (locators ++ at ∷ []) after

-- At this one of the locators no socket was bound, and at each of those before it one was.
pub record IsUnbound {W : Type 0} (binds : Binding W) (before : W) (locators : List Locator) (at : Locator)
    (error : Error) (after : W) : Type 0 where
  pub earlier : List Locator
  pub later : List Locator
  pub locators_are : locators ≡ earlier ++ at ∷ later
  pub between : W
  pub bound : AreBound binds before earlier between
  pub fails : binds between at (Err error) after

-- a socket that isn't bound is refused as such, or as memory that ran out
abbrev pub bind_refusal : Locator → ErrorKind → Refusal
bind_refusal at kind.OutOfMemory = OutOfMemory
bind_refusal at _ = NoServer (CannotBind at)
