-- What is done with a request that is admitted.
use Rattle.std.proofs.Common.{◌≡◌, ℕ, true, false, List, [], ◌∷◌, ◌++◌, Option, Some, None, refl, sym, ap, ◌∙◌}
use Rattle.ddt_path.specs.declared.locator.Locator.{Locator}
use Rattle.ddt_sockets.specs.declared.wire_calls.Call.{Call}
use Rattle.ddt_sockets.specs.declared.wire_calls.Packet.{Packet}
use Rattle.ddt_wire.specs.declared.message_type.MessageType.TheVariants.{Encapsulated}
use Rattle.ddt_wire.specs.MessageType.{is_of}
use Rattle.ddt_wire.specs.Referral.{written, message_of}
use Rattle.ddt_resolver.specs.State.{State}
use Rattle.ddt_resolver.specs.Within.{IsCut, whole, cut, cut_to}
use Rattle.ddt_path.specs.declared.xeid.Xeid.{Xeid}
use Rattle.ddt_daemon.specs.declared.itr_requests.WaitingRequest.{WaitingRequest}
use Rattle.ddt_loop.specs.Acts.{Running}
use Rattle.ddt_config.specs.declared.settings.resolver_settings.Settings.{Settings}
use Rattle.ddt_daemon.specs.declared.admission.Admitted.TheVariants.{Waits as WaitsFor}
use Rattle.ddt_daemon.specs.declared.admission.Waiter.{Waiter}
use Rattle.ddt_daemon.specs.declared.recent_requests.Recent.{Recent}
use Rattle.ddt_daemon.specs.Resolving.{Resolving, resolving, at_moment}
use Rattle.ddt_daemon.specs.Admitted.{IsGranted, IsRememberedAt}
use Rattle.ddt_daemon.proofs.PlainLemmas.{referral_is_plain}
use Rattle.std.specs.Prelude.{IfSome}
use Rattle.std.specs.Result.{IsErr}
use Rattle.ddt_foreign.specs.Plain.{plain_in, Gives}
use Rattle.ddt_resolver.specs.declared.pending.Pending.{Pending}
use Rattle.ddt_daemon.specs.Spelled.{IsAskedFor, IsSpelledAs, short, unasked, untaken, taken}
use Rattle.ddt_daemon.specs.Rounds as rounds
use Rattle.ddt_daemon.specs.Rounds.{IsAsked, IsHandled, shared, asked}

pub handled_asked : {settings : Settings} {me : Locator} {now : ℕ} {p : Packet} {bytes : List ℕ} {w new : Resolving} {near : List Call} (recent : List (Option Recent)) (a : Waiter)
    → is_of Encapsulated bytes ≡ true → IsGranted settings w.kept (at_moment now w.running) p.from bytes (WaitsFor a)
    → IsRememberedAt now w.recent (WaitsFor a) recent → IsAsked me now a (resolving (at_moment now w.running) w.kept w.counts recent) near new
    → IsHandled settings me now p bytes w near [] new
handled_asked recent a sort granted fresh (rounds.shares t k its same kept none is) =
    shared a.request k recent sort granted.0 (rw (granted.2, granted.3) at kept) (rw (its, sym same) at granted.1) (rw granted.2 at fresh) none refl is
handled_asked recent a sort granted fresh (rounds.asks servers its asks keeps) =
    asked a.request servers recent sort granted.0 (rw its at granted.1) (rw granted.2 at fresh) asks refl (rw (granted.2, granted.3) at keeps)

-- what a reply is cut to is a Map-Referral
pub plain_cut : {s : State} {from : Locator} {bytes heard lent : List ℕ} → IsCut s from bytes (Some heard) → lent ≡ heard → is_of Encapsulated lent ≡ false
plain_cut (whole none not) same = absurd (cc not)
plain_cut {heard = heard} (cut l rec zone wide is spells) same =
    let e : heard ≡ written l.nonce (cut_to zone rec) = cc is in rw (same, e) (referral_is_plain _ (message_of l.nonce (cut_to zone rec)) spells)

-- what is given of a foreign Map-Referral is one
pub plain_spelled : {s : State} {bytes given lent : List ℕ} → IsSpelledAs s bytes (Some given) → lent ≡ given → is_of Encapsulated lent ≡ false
plain_spelled (short few is) same = absurd (cc is)
plain_spelled (unasked nobody is) same = absurd (cc is)
plain_spelled (untaken t l its err is) same = absurd (cc is)
plain_spelled {given = given} (taken t l its_bytes its gives is) same = let e : given ≡ its_bytes = cc is in rw (same, e) (referral_is_plain _ _ gives.spelled)

-- what is given for the identifier that a pending lookup asks for, or that nothing is
pub spelled_as : (s : State) (bytes : List ℕ) (t : ℕ) (l : Pending) (x : Xeid) (plain : Option (List ℕ)) → IsAskedFor s bytes t l → l.x ≡ x
    → IfSome plain (λ given. Gives x bytes given) → (plain ≡ None → IsErr (plain_in x bytes)) → IsSpelledAs s bytes plain
spelled_as s bytes t l x None its same gives none = untaken t l its (rw same (none refl)) refl
spelled_as s bytes t l x (Some given) its same gives none = taken t l given its (rw same gives) refl
