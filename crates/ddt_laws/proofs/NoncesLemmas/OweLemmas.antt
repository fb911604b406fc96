-- Where each reply that the resolver tries is owed, so is each that is tried over the wires behind.
use Rattle.std.proofs.Common.{◌≡◌, ℕ, ◌/◌, Bool, true, false, List, [], ◌∷◌, ◌++◌, Some, Result, Ok, refl, sym, ap, subst, ◌∙◌, arith, append-nil, eqb-true, length, inl, inr, ◌⊎◌}
use Rattle.std.specs.Prelude.{◌≢◌, slice_index}
use Rattle.std.proofs.lemmas.Bool.{true≢false}
use Rattle.ddt_path.specs.declared.locator.Locator.{Locator}
use Rattle.ddt_path.specs.declared.xeid.Xeid.{Xeid}
use Rattle.ddt_path.specs.Locators.{is_same_locator}
use Rattle.ddt_path.specs.Path.{xeid_path}
use Rattle.ddt_path.specs.laws.Locator.{same_locator, is_same_locator_self}
use Rattle.ddt_register.specs.declared.register.Register.{Register}
use Rattle.ddt_check.specs.Assignment.{assignment}
use Rattle.ddt_ecm.specs.Request.{written}
use Rattle.ddt_ecm.specs.UdpHeader.{control_port}
use Rattle.ddt_sockets.specs.declared.wire_calls.Call.{Call}
use Rattle.ddt_sockets.specs.declared.wire_calls.Call.TheVariants.{Received, Tried}
use Rattle.ddt_sockets.specs.declared.wire_calls.NetFault.{NetFault}
use Rattle.ddt_sockets.specs.declared.wire_calls.Packet.{Packet}
use Rattle.ddt_resolver.specs.declared.results.Outgoing.{Outgoing}
use Rattle.ddt_resolver.specs.declared.itr_messages.ItrRequest.{ItrRequest}
use Rattle.ddt_resolver.specs.Front.{IsItrRequest, reply_to_itr}
use Rattle.ddt_resolver.specs.State.{request_bytes}
use Rattle.ddt_loop.specs.Right.{IsNoReply, Owes, begin, asked, told, forgotten, other}
use Rattle.ddt_sockets.specs.Nonces.Outstanding.{Request}
use Rattle.ddt_sockets.specs.Nonces.Translation.{with_nonce, IsNumbered, IsTranslated, asks, unsent, passes, none, failed, gives, lifts, drops, Translates, begins, one, forgets}
use Rattle.ddt_laws.specs.Nonces.Runs.{TranslatedRepliesAreOwed}
use Rattle.ddt_laws.proofs.NoncesLemmas.LiftLemmas.{push_split}
use Rattle.ddt_laws.proofs.NoncesLemmas.RequestLemmas.{first_of_request}

-- ---- a Map-Referral is no request

first_of_numbered : (bytes : List ℕ) (n m : ℕ) → IsNumbered bytes m → slice_index (with_nonce n bytes) 0 / 16 ≡ 6
first_of_numbered [] n m is = let kind = is.long in absurd (omega (arith, kind))
first_of_numbered (first ∷ rest) n m is = eqb-true (first / 16) 6 is.kind

no_request : (bytes given : List ℕ) (n m : ℕ) (q : ItrRequest) → IsNumbered bytes m → given ≡ with_nonce n bytes → IsItrRequest given q → ⊥
no_request bytes given n m q numbered is asks_it =
    let six = first_of_numbered bytes n m numbered in
    let eight = first_of_request given asks_it.message asks_it.spells in
    let same : slice_index given 0 / 16 ≡ 6 = ap (λ l. slice_index l 0 / 16) is ∙ six in
    omega (arith, same, eight)

-- ---- the last call

none_before : {plain wire : List Call} {sent : List Request} → Translates plain wire sent → plain ≡ [] → wire ≡ []
none_before begins e = refl
none_before (one {plain = []} call calls new so_far is) e = absurd (cc e)
none_before (one {plain = c ∷ p} call calls new so_far is) e = absurd (cc e)
none_before (forgets before gone after so_far was) e = none_before so_far e

record IsLast (wire earlier : List Call) (c : Call) : Type 0 where
  before : List Call
  calls : List Call
  old : List Request
  new : List Request
  translates : Translates earlier before old
  is : IsTranslated old c calls new
  whole : wire ≡ before ++ calls

no_more : (more : List Call) (x : Call) → [] ≡ more ++ x ∷ [] → ⊥
no_more [] x e = cc e
no_more (y ∷ more) x e = cc e

last : {plain wire : List Call} {sent : List Request} → Translates plain wire sent → (earlier : List Call) (c : Call) → plain ≡ earlier ++ c ∷ [] → IsLast wire earlier c
last begins [] c e = absurd (cc e)
last begins (x ∷ earlier) c e = absurd (cc e)
last (one {plain = p} {wire = w} {old = o} call calls new so_far is) earlier c e = elim (push_split p earlier [] call c e) [
  | inl h ↦ record {
    before = w;
    calls = calls;
    old = o;
    new = new;
    translates = subst (λ l. Translates l w o) h.1 so_far;
    is = subst (λ (d : Call). IsTranslated o d calls new) h.2 is;
    whole = refl;
  }
  | inr h ↦ absurd (no_more h.0 call h.1)
]
last (forgets before gone after so_far was) earlier c e = last so_far earlier c e

-- ---- what tries no reply

same_or_other : (at me : Locator) (b : Bool) → is_same_locator at me ≡ b → (at ≢ me) ⊎ (at ≡ me)
same_or_other at me true e = inr (same_locator at me e)
same_or_other at me false e = inl (λ same. true≢false (sym (is_same_locator_self at) ∙ ap (is_same_locator at) same ∙ e))

is_request : (me to : Locator) (port wire : ℕ) (x : Xeid) (answer : Result (Unit {0}) NetFault) → IsNoReply me (Tried me to port (written wire x (me ∷ []) true) answer)
unfolding request_bytes
is_request me to port wire x answer = inr (wire, x, refl)

request_no_reply : (me at to : Locator) (port wire : ℕ) (x : Xeid) (answer : Result (Unit {0}) NetFault) → IsNoReply me (Tried at to port (written wire x (at ∷ []) true) answer)
request_no_reply me at to port wire x answer = elim (same_or_other at me (is_same_locator at me) refl) [
  | inl apart ↦ inl apart
  | inr same ↦ subst (λ (l : Locator). IsNoReply me (Tried l to port (written wire x (l ∷ []) true) answer)) (sym same) (is_request me to port wire x answer)
]

-- ---- a call

module _ (r : Register) (me : Locator) where
  by_asked : {plain : List Call} (before after : List ItrRequest) (room : ℕ) (p : Packet) (bytes : List ℕ) (q : ItrRequest) → IsItrRequest bytes q → Owes r me plain (before ++ after)
      → (c : Call) (calls : List Call) (old new : List Request) → IsTranslated old c calls new → c ≡ Received me room (Ok (Some p)) bytes → Owes r me (plain ++ calls) (before ++ q ∷ after)
  by_asked before after room p bytes q it so c calls old new (asks at to b n w y answer its unused) e = absurd (cc e)
  by_asked before after room p bytes q it so c calls old new (unsent at to b n y its) e = absurd (cc e)
  by_asked before after room p bytes q it so c calls old new (passes at to k b answer not) e = absurd (cc e)
  by_asked before after room p bytes q it so c calls old new (none at room_) e = absurd (cc e)
  by_asked before after room p bytes q it so c calls old new (failed at room_ fault) e = absurd (cc e)
  by_asked before after room p bytes q it so c calls old new (drops at room_ k b n numbered strange) e = absurd (cc e)
  by_asked before after room p bytes q it so c calls old new (gives at room_ k b not) e = rw e (asked before after room p bytes q so it)
  by_asked before after room p bytes q it so c calls old new (lifts at room_ k b n front back s numbered port its was) e =
      let same : bytes ≡ with_nonce s.plain b = cc e in absurd (no_request b bytes s.plain n q numbered same it)

  by_told : {plain : List Call} (before after : List ItrRequest) (q : ItrRequest) (d : Outgoing) (answer : Result (Unit {0}) NetFault) → Owes r me plain (before ++ q ∷ after)
      → reply_to_itr (assignment r (xeid_path q.xeid)) q ≡ Some d
      → (c : Call) (calls : List Call) (old new : List Request) → IsTranslated old c calls new → c ≡ Tried me d.to d.port d.bytes answer → Owes r me (plain ++ calls) (before ++ after)
  by_told before after q d answer so reply c calls old new (asks at to b n w y answer_ its unused) e = other _ (forgotten before after q so) (request_no_reply me at to control_port w y answer_)
  by_told {plain = plain} before after q d answer so reply c calls old new (unsent at to b n y its) e = rw append-nil (forgotten before after q so)
  by_told before after q d answer so reply c calls old new (passes at to k b answer_ not) e = rw e (told before after q d answer so reply)
  by_told before after q d answer so reply c calls old new (none at room_) e = absurd (cc e)
  by_told before after q d answer so reply c calls old new (failed at room_ fault) e = absurd (cc e)
  by_told before after q d answer so reply c calls old new (drops at room_ k b n numbered strange) e = absurd (cc e)
  by_told before after q d answer so reply c calls old new (gives at room_ k b not) e = absurd (cc e)
  by_told before after q d answer so reply c calls old new (lifts at room_ k b n front back s numbered port its was) e = absurd (cc e)

  by_other : {plain : List Call} {owed : List ItrRequest} → Owes r me plain owed → (c : Call) (calls : List Call) (old new : List Request) → IsTranslated old c calls new → IsNoReply me c
      → Owes r me (plain ++ calls) owed
  by_other so c calls old new (asks at to b n w y answer its unused) quiet = other _ so (request_no_reply me at to control_port w y answer)
  by_other so c calls old new (unsent at to b n y its) quiet = rw append-nil so
  by_other so c calls old new (passes at to k b answer not) quiet = other _ so quiet
  by_other so c calls old new (none at room) quiet = other _ so tt
  by_other so c calls old new (failed at room fault) quiet = other _ so tt
  by_other so c calls old new (drops at room k b n numbered strange) quiet = other _ so tt
  by_other so c calls old new (gives at room k b not) quiet = other _ so tt
  by_other so c calls old new (lifts at room k b n front back s numbered port its was) quiet = other _ so tt

  owes_translated : {plain : List Call} {owed : List ItrRequest} → Owes r me plain owed → (wire : List Call) (sent : List Request) → Translates plain wire sent → Owes r me wire owed
  owes_translated begin wire sent v = rw (none_before v refl) begin
  owes_translated (asked {calls = calls} before after room p bytes q so it) wire sent v =
      let l = last v calls (Received me room (Ok (Some p)) bytes) refl in
      rw l.whole (by_asked before after room p bytes q it (owes_translated so l.before l.old l.translates) _ l.calls l.old l.new l.is refl)
  owes_translated (told {calls = calls} before after q d answer so reply) wire sent v =
      let l = last v calls (Tried me d.to d.port d.bytes answer) refl in
      rw l.whole (by_told before after q d answer (owes_translated so l.before l.old l.translates) reply _ l.calls l.old l.new l.is refl)
  owes_translated (forgotten before after q so) wire sent v = forgotten before after q (owes_translated so wire sent v)
  owes_translated (other {calls = calls} call so quiet) wire sent v =
      let l = last v calls call refl in
      rw l.whole (by_other (owes_translated so l.before l.old l.translates) call l.calls l.old l.new l.is quiet)

pub owed_translated : TranslatedRepliesAreOwed
owed_translated r me plain wire sent v h = (h.0, owes_translated r me h.1 wire sent v)
