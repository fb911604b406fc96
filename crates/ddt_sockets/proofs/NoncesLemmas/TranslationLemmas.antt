-- What is told on both sides stays a translation.
use Rattle.std.proofs.Common.{◌≡◌, ℕ, ◌≤◌, List, [], ◌∷◌, ◌++◌, length, take, drop, Option, Some, None, Ok, refl, sym, ap, subst, ◌∙◌, arith, length-append, append-nil, append_assoc}
use Rattle.std.specs.Prelude.{◌≢◌, IfSome, All, true, false}
use Rattle.std.proofs.Common.{length-drop}
use Rattle.std.proofs.lemmas.List.{take_at, take-append-drop}
use Rattle.ddt_path.specs.declared.locator.Locator.{Locator}
use Rattle.ddt_path.specs.declared.xeid.Xeid.{Xeid}
use Rattle.rand_core.specs.Stream.{Stream, next_u64}
use Rattle.ddt_ecm.specs.Request.{written}
use Rattle.ddt_sockets.specs.declared.wire_calls.Packet.{Packet}
use Rattle.ddt_sockets.specs.declared.wire_calls.Call.TheVariants.{Received}
use Rattle.std.proofs.lemmas.Option.{none-some, same_Some}
use Rattle.ddt_sockets.specs.declared.wire_calls.Call.{Call}
use Rattle.ddt_sockets.specs.Calls.{RecordsCalls, received}
use Rattle.std.specs.Int.{w64, to_be_bytes}
use Rattle.byteorder.specs.Endian.{big_number}
use Rattle.ddt_path.specs.Steps.{IsBytes}
use Rattle.ddt_path.specs.laws.Byte.{IsBytes-drop, number_fits, number_stands}
use Rattle.ddt_wire.specs.declared.message_type.MessageType.TheVariants.{MapReferral}
use Rattle.ddt_wire.specs.MessageType.{is_of}
use Rattle.ddt_sockets.specs.Nonces.Outstanding.{Request, is_reply_to, noted, Takes, unknown, known}
use Rattle.ddt_sockets.specs.Nonces.Translation.{with_nonce, sent_to, IsNumbered, IsPrepared, IsTranslated, lifts, Translates, begins, one, forgets, Translation, IsTranslation}

abbrev pub translation : Option (List Call) → Option (List Call) → List Request → Translation
translation t b s = record { told = t; below = b; sent = s }

pub first_translation : (told below : Option (List Call)) (sent : List Request) → IfSome told (λ calls. calls ≡ []) → IfSome below (λ calls. calls ≡ []) → sent ≡ []
    → IsTranslation (translation told below sent)
first_translation None below sent t b s plain wire e f = absurd (none-some plain e)
first_translation (Some p) None sent t b s plain wire e f = absurd (none-some wire f)
first_translation (Some p) (Some w) sent t b s plain wire e f =
    rw (sym (same_Some p plain e) ∙ t, sym (same_Some w wire f) ∙ b, s) begins

pub translation_on : (told below : Option (List Call)) (sent : List Request) (call : Call) (calls : List Call) (new : List Request) → IsTranslation (translation told below sent)
    → IsTranslated sent call calls new → (told_new below_new : Option (List Call)) → RecordsCalls told (call ∷ []) told_new
    → RecordsCalls below calls below_new → IsTranslation (translation told_new below_new new)
translation_on told below sent call calls new was is None b r q plain wire e f = absurd (none-some plain e)
translation_on told below sent call calls new was is (Some p) None r q plain wire e f = absurd (none-some wire f)
translation_on None below sent call calls new was is (Some p) (Some w) r q plain wire e f = absurd r
translation_on (Some t) None sent call calls new was is (Some p) (Some w) r q plain wire e f = absurd q
translation_on (Some t) (Some b) sent call calls new was is (Some p) (Some w) r q plain wire e f =
    subst (λ l. Translates l wire new) (sym r ∙ same_Some p plain e)
    (subst (λ l. Translates (t ++ call ∷ []) l new) (sym q ∙ same_Some w wire f) (one call calls new (was t b refl refl) is))

-- the nonce after the first four bytes
pub numbered : (bytes : List ℕ) → IsBytes bytes → is_of MapReferral bytes ≡ true → 12 ≤ length bytes → IsNumbered bytes (big_number 8 (drop 4 bytes))
numbered bytes fits kind long = record {
  kind = kind;
  nonce_fits = number_fits 8 (drop 4 bytes) (IsBytes-drop 4 bytes fits);
  long = long;
  whole = sym (take-append-drop 4 bytes) ∙ ap (λ rest. take 4 bytes ++ rest) (number_stands 4 8 bytes fits long).is
      ∙ sym (append_assoc (take 4 bytes) (to_be_bytes w64 (big_number 8 (drop 4 bytes))) (drop 12 bytes));
}

-- the request that was taken off the list
pub record IsTakenOff (at from : Locator) (nonce : ℕ) (old new : List Request) (s : Request) : Type 0 where
  pub before : List Request
  pub after : List Request
  pub its : is_reply_to at from nonce s ≡ true
  pub was : old ≡ before ++ s ∷ after
  pub left : new ≡ before ++ after

pub taken_off : {at from : Locator} {nonce : ℕ} {old new : List Request} {taken : Option Request} (s : Request) → Takes at from nonce old new taken → taken ≡ Some s
    → IsTakenOff at from nonce old new s
taken_off s (unknown all same none) is = absurd (none-some s (sym none ∙ is))
taken_off s (known before after t its was left e) is =
    let one : t ≡ s = same_Some t s (sym e ∙ is) in
    record { before = before; after = after; its = rw one at its; was = rw one at was; left = left }

pub none_taken : {at from : Locator} {nonce : ℕ} {old new : List Request} {taken : Option Request} → Takes at from nonce old new taken → taken ≡ None
    → All (λ s. is_reply_to at from nonce s ≡ false) old × (new ≡ old)
none_taken (unknown all same none) is = (all, same)
none_taken (known before after t its was left e) is = absurd (none-some t (sym is ∙ e))

-- the reply is given with its caller's nonce
pub lifted : (at : Locator) (p : Packet) (buffer bytes : List ℕ) (old new : List Request) (s : Request) (nonce : ℕ) → p.len ≤ length buffer
    → bytes ≡ with_nonce s.plain (take p.len buffer) → length bytes ≡ p.len → IsNumbered (take p.len buffer) nonce → p.port ≡ 4342
    → IsTakenOff at p.from nonce old new s
    → IsTranslated old (received at (Ok (Some p)) (bytes ++ drop p.len buffer)) (Received at (length buffer) (Ok (Some p)) (take p.len buffer) ∷ []) new
lifted at p buffer bytes old new s nonce le is len numbered_ port off =
    let room : length (bytes ++ drop p.len buffer) ≡ length buffer = omega (arith, length-append bytes (drop p.len buffer), length-drop p.len buffer, len, le) in
    let front : take p.len (bytes ++ drop p.len buffer) ≡ with_nonce s.plain (take p.len buffer) = take_at bytes (drop p.len buffer) p.len len ∙ is in
    rw (room, front, off.left) (lifts at (length buffer) p (take p.len buffer) nonce off.before off.after s numbered_ port off.its off.was)

-- where all requests are forgotten
pub forgetting : (told below : Option (List Call)) (sent new : List Request) → IsTranslation (translation told below sent) → new ≡ []
    → IsTranslation (translation told below new)
forgetting told below sent new was none plain wire e f =
    rw none (forgets [] sent [] (was plain wire e f) (sym (append-nil sent)))

-- a request is ready whose nonce is the generator's next word
pub prepared_by : (at to : Locator) (plain : ℕ) (x : Xeid) (s : Stream) (old new : List Request) (bytes : List ℕ) (wire : ℕ) → wire ≡ (next_u64 s).0
    → All (λ r. r.wire ≢ wire) old → bytes ≡ written wire x (at ∷ []) true → new ≡ noted old (sent_to at to wire plain)
    → IsPrepared at to plain x s old new bytes
prepared_by at to plain x s old new bytes wire drawn unused spelled outstanding =
    record { unused = rw drawn at unused; spelled = rw drawn at spelled; outstanding = rw drawn at outstanding }
