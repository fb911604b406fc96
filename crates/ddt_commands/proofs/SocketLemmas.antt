-- What a call that binds a socket answers; sockets bound one after the other.
use Rattle.std.proofs.Common.{◌≡◌, ℕ, ◌+◌, ◌<◌, ◌≤◌, List, [], ◌∷◌, ◌++◌, length, get_or, take, drop, Ok, Err, refl, sym, ap, subst, ◌∙◌}
use Rattle.std.specs.Prelude.{Result}
use Rattle.std.specs.Borrow.{MutBor}
use Rattle.std.specs.Fn.{Shared}
use Rattle.std.specs.declared.io.Error.{Error}
use Rattle.std.proofs.lemmas.List.{drop_more, take-append-drop, take_all, take_more}
use Rattle.ddt_path.specs.declared.locator.Locator.{Locator}
use Rattle.ddt_commands.specs.Sockets.{AreBound, Binding, Binds, IsUnbound, none, one_more}

-- the call that binds a socket, by its answer
pub binds_as : {B W : Type 0} (g : Shared B (MutBor W × (Locator × Unit {0})) (Result (Unit {0}) Error × (MutBor W × Unit {0}))) (bind : B) (lent left : MutBor W) (at : Locator)
    (answer shown : Result (Unit {0}) Error) → answer ≡ shown → g.post bind (lent, (at, tt)) (answer, (left, tt)) → Binds g bind lent.now at shown left.now
binds_as {B} {W} g bind lent left at answer shown e met =
    subst (λ (r : Result (Unit {0}) Error). Binds g bind lent.now at r left.now) e (record { lent = lent; lends = refl; left = left; leaves = refl; met = met })

pub bound_first : {W : Type 0} (binds : Binding W) (before after : W) (first : Locator) → binds before first (Ok tt) after → AreBound binds before (first ∷ []) after
bound_first binds before after first bound = one_more first after none bound

pub unbound_first : {W : Type 0} (binds : Binding W) (before after : W) (first : Locator) (others : List Locator) (error : Error) → binds before first (Err error) after
    → IsUnbound binds before (first ∷ others) first error after
unbound_first binds before after first others error fails = record { earlier = []; later = others; locators_are = refl; between = before; bound = none; fails = fails }

module _ {W : Type 0} (binds : Binding W) (before : W) (first : Locator) (others : List Locator) (i : ℕ) (d : Locator) (between after : W) where
  pub bound_more : i < length others → AreBound binds before (first ∷ take i others) between → binds between (get_or others i d) (Ok tt) after
      → AreBound binds before (first ∷ take (i + 1) others) after
  bound_more lt bound next =
      subst (λ (ls : List Locator). AreBound binds before (first ∷ ls) after) (sym (take_more others i d lt)) (one_more (get_or others i d) after bound next)

  pub unbound_at : (error : Error) → i < length others → AreBound binds before (first ∷ take i others) between → binds between (get_or others i d) (Err error) after
      → IsUnbound binds before (first ∷ others) (get_or others i d) error after
  unbound_at error lt bound fails = record {
    earlier = first ∷ take i others;
    later = drop (i + 1) others;
    locators_are = ap (λ (ls : List Locator). first ∷ ls) (sym (take-append-drop i others) ∙ ap (λ (ls : List Locator). take i others ++ ls) (drop_more others i d lt));
    between = between;
    bound = bound;
    fails = fails;
  }

pub bound_all : {W : Type 0} (binds : Binding W) (before after : W) (first : Locator) (others : List Locator) (i : ℕ) → length others ≤ i → AreBound binds before (first ∷ take i others) after
    → AreBound binds before (first ∷ others) after
bound_all binds before after first others i all bound = subst (λ (ls : List Locator). AreBound binds before (first ∷ ls) after) (take_all i others all) bound
