-- What is known of steps that went well.
use Rattle.std.proofs.Common.{◌≡◌, Bool, true, false, cond, Result, Ok, Err, refl, inl, inr}
use Rattle.std.specs.Prelude.{◌⊎◌, OnOk}
use Rattle.std.specs.Result.{IsErr}
use Rattle.ddt_path.specs.Steps.{◌>>=◌, in_words}

-- the value of a step that did not fail
pub bind_ok : {A B E : Type 0} (r : Result A E) (f : A → Result B E) (y : B) → (r >>= f) ≡ Ok y → (x : A) × (r ≡ Ok x) × (f x ≡ Ok y)
bind_ok (Ok x) f y e = (x, refl, e)
bind_ok (Err d) f y e = absurd cc

-- the same, for what follows from it
pub bind_parts : {A B E P : Type 0} (r : Result A E) (next : A → Result B E) (b : B) → (r >>= next) ≡ Ok b → ((a : A) → r ≡ Ok a → next a ≡ Ok b → P) → P
bind_parts (Ok a) next b e k = k a refl e
bind_parts (Err d) next b e k = absurd cc

-- a test that did not fail
pub guard_ok : {A E : Type 0} (b : Bool) (d : E) (r : Result A E) (x : A) → cond b (Err d) r ≡ Ok x → (b ≡ false) × (r ≡ Ok x)
guard_ok true d r x e = absurd cc
guard_ok false d r x e = (refl, e)

-- the same, for what follows from it
pub guard_parts : {A E P : Type 0} (b : Bool) (d : E) (r : Result A E) (x : A) → cond b (Err d) r ≡ Ok x → (b ≡ false → r ≡ Ok x → P) → P
guard_parts true d r x e k = absurd cc
guard_parts false d r x e k = k refl e

-- a test that had to hold
pub held_ok : {A E : Type 0} (b : Bool) (d : E) (r : Result A E) (x : A) → cond b r (Err d) ≡ Ok x → (b ≡ true) × (r ≡ Ok x)
held_ok true d r x e = (refl, e)
held_ok false d r x e = absurd cc

pub chosen : {A : Type 0} (b : Bool) (r s t : A) → cond b r s ≡ t → ((b ≡ true) × (r ≡ t)) ⊎ ((b ≡ false) × (s ≡ t))
chosen true r s t e = inl (refl, e)
chosen false r s t e = inr (refl, e)

pub words_ok : {A D E : Type 0} (f : D → E) (r : Result A D) (x : A) → in_words f r ≡ Ok x → r ≡ Ok x
words_ok f (Ok y) x e = cc
words_ok f (Err d) x e = absurd cc

abbrev done : {A E : Type 0} → A → Result A E
done x = Ok x

pub ok_is : {A E : Type 0} (x y : A) → done {E = E} x ≡ done y → x ≡ y
ok_is x y e = cc

-- a result is a fault if and only if it is no value
pub err_not_ok : {A E : Type 0} (r : Result A E) (x : A) → IsErr r → r ≡ Ok x → ⊥
err_not_ok (Ok y) x e f = absurd cc
err_not_ok (Err d) x e f = absurd cc

pub err_unless : {A E : Type 0} (r : Result A E) → ((x : A) → r ≡ Ok x → ⊥) → IsErr r
err_unless (Ok x) n = absurd (n x refl)
err_unless (Err d) n = refl

-- what holds in any case
pub always : {A E P : Type 0} (r : Result A E) → P → OnOk r P
always (Ok x) p = p
always (Err d) p = tt
