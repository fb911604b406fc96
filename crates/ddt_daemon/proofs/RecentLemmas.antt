-- What is remembered of requests that came lately.
use Rattle.std.proofs.Common.{◌≡◌, ℕ, zero, suc, ◌+◌, ◌%◌, ◌<◌, ◌≤◌, List, [], ◌∷◌, ◌++◌, length, get_or, set, take, Option, Some, None, Result, Ok, Err, refl, sym, ap, ◌∙◌, subst, arith, inl, inr}
use Rattle.std.specs.Prelude.{replicate, ◌≢◌, if◌then◌else◌, is_ok, OnOk}
use Rattle.std.proofs.lemmas.List.{get_or-set_same, get_or-set_other, take_all}
use Rattle.std.specs.declared.alloc.AllocError.{AllocError}
use Rattle.ddt_daemon.specs.declared.recent_requests.Recent.{Recent}
use Rattle.ddt_daemon.specs.Recent.{most_recent, place_of, recent_in, Remembers, in_place}

-- with places for all, in which is what was, a request is put in its place
pub put_in : (old places : List (Option Recent)) (came : Recent) (at : ℕ) → at ≡ place_of came → most_recent ≤ length places
    → ((place : ℕ) → recent_in places place ≡ recent_in old place) → Remembers old came (set places at (Some came))
put_in old places came at is all same =
    let within : at < length places = omega (arith, is, all) in
    in_place (rw (sym is) (get_or-set_same places at (Some came) None within))
    (λ place apart. get_or-set_other places at place (Some came) None (rw is apart) ∙ same place)

none_in : (n place : ℕ) → recent_in (replicate n None) place ≡ None
none_in zero place = refl
none_in (suc n) zero = refl
none_in (suc n) (suc place) = none_in n place

nothing_more : (old : List (Option Recent)) (n place : ℕ) → recent_in (old ++ replicate n None) place ≡ recent_in old place
nothing_more [] n place = none_in n place
nothing_more (r ∷ old) n zero = refl
nothing_more (r ∷ old) n (suc place) = nothing_more old n place

-- in the places that are made nothing is
pub made : (r : Result (Unit {0}) AllocError) (old new : List (Option Recent)) (n more : ℕ) → length old ≤ n
    → new ≡ (if is_ok r then take n old ++ replicate more None else old) → OnOk r ((place : ℕ) → recent_in new place ≡ recent_in old place)
made (Ok done) old new n more few is = λ place. rw (is, take_all n old few) (nothing_more old more place)
made (Err e) old new n more few is = tt
