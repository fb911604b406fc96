-- What it takes that a message is taken.
use Rattle.std.proofs.Common.{◌≡◌, ℕ, ◌≤◌, Bool, true, false, not, cond, List, [], ◌∷◌, ◌&&◌, ◌==◌, Option, Some, None, Result, Ok, Err, refl, sym, ap, subst, ◌∙◌, ◌||◌, arith, inl, inr}
use Rattle.std.specs.Prelude.{Contains, nat_lt}
use Rattle.std.specs.List.{list_any}
use Rattle.std.specs.Option.{unwrap_or}
use Rattle.std.proofs.lemmas.Bool.{and_parts, eqb-true, ltb-true, false≢true, not-true}
use Rattle.ddt_path.specs.Covers.{is_same_path}
use Rattle.ddt_path.specs.Steps.{◌>>=◌}
use Rattle.ddt_path.specs.laws.Cover.{same_path, path_itself}
use Rattle.ddt_path.specs.laws.Member.{IsIn, in_contained, contained, found_in, found_passes, holds_at, in_any}
use Rattle.ddt_config.specs.Shaped.{have_own_prefixes}
use Rattle.ddt_map_register.specs.MapRegister.{Message}
use Rattle.ddt_map_register.specs.RegisterRecord.{RegisterRecord}
use Rattle.ddt_registrar.specs.declared.key.Replay.{Replay}
use Rattle.ddt_registrar.specs.declared.key.Replay.TheVariants.{Increasing, Any}
use Rattle.ddt_registrar.specs.declared.sender.Sender.{Sender}
use Rattle.ddt_registrar.specs.declared.registration.LastNonce.{LastNonce}
use Rattle.ddt_registrar.specs.declared.refusal.Refusal.{Refusal}
use Rattle.ddt_registrar.specs.declared.refusal.Refusal.TheVariants.{WrongCode, Replayed, TooMany}
use Rattle.ddt_registrar.specs.Checks.{key_of, bears_code, nonce_of, is_above, is_fresh, has_room, checked_under, site_of, checked_at, checked_from, checked}
use Rattle.ddt_registrar.specs.Registration.{is_of_same_xtr}
use Rattle.ddt_registrar.specs.State.{Key, Site}
use Rattle.ddt_laws.specs.Registrations.Steps.{IsRefused, MayRegister, MessagesAreTakenWhole, UnauthenticIsRefused, ReplaysAreRefused}

-- what isn't taken is refused
refused_case : (verdict : Result Key Refusal) → ((k : Key) → verdict ≡ Ok k → ⊥) → (why : Refusal) × (verdict ≡ Err why)
refused_case (Ok k) none = absurd (none k refl)
refused_case (Err why) none = (why, refl)

pub refused : (m : Message) (x : Sender) (sites : List Site) → ((k : Key) → checked m x sites ≡ Ok k → ⊥) → IsRefused m x sites
refused m x sites none = refused_case (checked m x sites) none

-- ---- one record

all_passed : (bears fresh room : Bool) (k key : Key)
    → cond (not bears) (Err WrongCode) (cond (not fresh) (Err Replayed) (cond (not room) (Err TooMany) (Ok k))) ≡ Ok key
    → (bears ≡ true) × (fresh ≡ true) × (room ≡ true)
all_passed true true true k key e = (refl, refl, refl)
all_passed true true false k key e = absurd cc
all_passed true false room k key e = absurd cc
all_passed false fresh room k key e = absurd cc

module _ (m : Message) (x : Sender) (sites : List Site) (r : RegisterRecord) where
  with_key : (s : Site) → site_of r sites ≡ Some s → (named : Option Key) → key_of m.head s.keys ≡ named → (key : Key) → checked_under m r x s named ≡ Ok key
      → MayRegister m x sites r
  with_key s is None named key e = absurd cc
  with_key s is (Some k) named key e =
      let passed = all_passed (bears_code k.secret m) (is_fresh k.replay (nonce_of m) s.nonces) (has_room k.replay m r x s) k key e in
      let ids = and_parts (k.id == m.head.key_id) (k.algorithm == m.head.algorithm)
      (found_passes (λ (j : Key). j.id == m.head.key_id && j.algorithm == m.head.algorithm) s.keys k named) in
      record {
        site = s;
        key = k;
        is_kept = contained sites s (found_in (λ (t : Site). is_same_path t.prefix r.prefix) sites s is);
        of_prefix = same_path s.prefix r.prefix (found_passes (λ (t : Site). is_same_path t.prefix r.prefix) sites s is);
        named = named;
        of_site = contained s.keys k (found_in (λ (j : Key). j.id == m.head.key_id && j.algorithm == m.head.algorithm) s.keys k named);
        under = record { id = eqb-true k.id m.head.key_id ids.0; algorithm = eqb-true k.algorithm m.head.algorithm ids.1; authentic = passed.0 };
        fresh = passed.1;
        room = passed.2;
      }

  at_site : (found : Option Site) → site_of r sites ≡ found → (key : Key) → checked_at m r x found ≡ Ok key → MayRegister m x sites r
  at_site None is key e = absurd cc
  at_site (Some s) is key e = with_key s is (key_of m.head s.keys) refl key e

-- ---- all records

one_step : {A B E : Type 0} (step : Result A E) (f : A → Result B E) (b : B) → step >>= f ≡ Ok b → (a : A) × (step ≡ Ok a) × (f a ≡ Ok b)
one_step (Ok a) f b e = (a, refl, e)
one_step (Err why) f b e = absurd cc

module _ (m : Message) (x : Sender) (sites : List Site) where
  each_may : (rs : List RegisterRecord) (first : Option Key) (key : Key) → checked_from m x sites rs first ≡ Ok key
      → (r : RegisterRecord) → IsIn r rs → MayRegister m x sites r
  each_may [] first key e r among = absurd among
  each_may (q ∷ others) first key e r among =
      let step = one_step (checked_at m q x (site_of q sites)) (λ k. checked_from m x sites others (Some (unwrap_or first k))) key e in
      elim among [
        | inl is ↦ at_site m x sites r (site_of r sites) refl step.0 (ap (λ (p : RegisterRecord). checked_at m p x (site_of p sites)) is ∙ step.1)
        | inr later ↦ each_may others (Some (unwrap_or first step.0)) key step.2 r later
      ]

pub taken_whole : MessagesAreTakenWhole
taken_whole m x sites key e r among = each_may m x sites m.records None key e r (in_contained m.records r among)

pub unauthentic : UnauthenticIsRefused
unauthentic m x sites r among none =
    refused m x sites (λ key e. let may = taken_whole m x sites key e r among in none may.site may.key may.is_kept may.of_prefix may.of_site may.under)

-- ---- sites of prefixes of their own are found by them

pub one_site : (sites : List Site) → have_own_prefixes (λ (s : Site). s.prefix) sites ≡ true → (s t : Site) → IsIn s sites → IsIn t sites → s.prefix ≡ t.prefix → s ≡ t
one_site [] own s t j k same = absurd j
one_site (a ∷ sites) own s t j k same =
    let parts = and_parts (not (list_any (λ (b : Site). is_same_path a.prefix b.prefix) sites)) _ own in
    let apart : (b : Site) → IsIn b sites → a.prefix ≡ b.prefix → ⊥ =
    λ b among p. false≢true (sym (not-true _ parts.0) ∙ in_any (λ (b : Site). is_same_path a.prefix b.prefix) sites b among (path_itself a.prefix b.prefix p)) in
    elim j [
      | inl is ↦ elim k [
        | inl at ↦ is ∙ sym at
        | inr later ↦ absurd (apart t later (ap (λ (b : Site). b.prefix) (sym is) ∙ same))
      ]
      | inr among ↦ elim k [
        | inl at ↦ absurd (apart s among (ap (λ (b : Site). b.prefix) (sym at) ∙ sym same))
        | inr later ↦ one_site sites parts.1 s t among later same
      ]
    ]

-- ---- replays

not_above : (same : Bool) (a b : ℕ) → same ≡ true → (not same || nat_lt a b) ≡ true → b ≤ a → ⊥
not_above true a b is e le = let lt = ltb-true a b e in absurd (omega (arith, lt, le))
not_above false a b is e le = false≢true is

pub not_fresh : (replay : Replay) (new last : LastNonce) (nonces : List LastNonce) → replay ≡ Increasing → IsIn last nonces → is_of_same_xtr last new ≡ true
    → new.nonce ≤ last.nonce → is_fresh replay new nonces ≡ true → ⊥
not_fresh Increasing new last nonces is among same le e =
    not_above (is_of_same_xtr last new) last.nonce new.nonce same (holds_at (is_above new) nonces last e among) le
not_fresh Any new last nonces is among same le e = absurd cc

pub replays : ReplaysAreRefused
replays m x sites r s last own among kept of_r increasing seen same le =
    refused m x sites (λ key e.
    let may = taken_whole m x sites key e r among in
    let is : may.site ≡ s = one_site sites own may.site s (in_contained sites may.site may.is_kept) (in_contained sites s kept) (may.of_prefix ∙ sym of_r) in
    let keys : Contains s.keys may.key = subst (λ (t : Site). Contains t.keys may.key) is may.of_site in
    let fresh = ap (λ (t : Site). is_fresh may.key.replay (nonce_of m) t.nonces) (sym is) ∙ may.fresh in
    not_fresh may.key.replay (nonce_of m) last s.nonces (increasing may.key keys may.under) (in_contained s.nonces last seen) same le fresh)
