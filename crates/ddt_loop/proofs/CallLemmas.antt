-- The calls of a running resolver: what was asked, what is fair, and who may be replied to.
use Rattle.std.proofs.Common.{◌≡◌, zero, suc, inl, inr, false, List, [], ◌∷◌, ◌++◌, append_assoc, append-nil, Some, None, Result, refl, sym, ◌∙◌}
use Rattle.std.specs.Prelude.{◌≢◌, All, slice_get, slice_set, map}
use Rattle.std.specs.List.{AllZip}
use Rattle.std.proofs.lemmas.Bool.{false≢true}
use Rattle.std.proofs.lemmas.List.Elements.{All-nil, All-cons, All-head, All-tail, Contains-append_left}
use Rattle.ddt_path.specs.declared.locator.Locator.{Locator}
use Rattle.ddt_path.specs.Path.{xeid_path}
use Rattle.ddt_path.specs.Locators.{lists, is_same_locator}
use Rattle.ddt_path.specs.laws.Locator.{is_same_locator_self}
use Rattle.ddt_path.specs.laws.Member.{in_get, fails_at}
use Rattle.ddt_check.specs.Assignment.{assignment}
use Rattle.ddt_sockets.specs.declared.wire_calls.Call.{Call}
use Rattle.ddt_sockets.specs.declared.wire_calls.Call.TheVariants.{Received, Tried}
use Rattle.ddt_sockets.specs.declared.wire_calls.NetFault.{NetFault}
use Rattle.ddt_sockets.specs.Turns.{AreTried}
use Rattle.ddt_resolver.specs.declared.results.Outgoing.{Outgoing}
use Rattle.ddt_resolver.specs.declared.itr_messages.ItrRequest.{ItrRequest}
use Rattle.ddt_resolver.specs.Front.{reply_to_itr}
use Rattle.ddt_resolver.specs.State.{request_bytes}
use Rattle.ddt_loop.specs.declared.lookup_end.LoopEnd.TheVariants.{Unresolved}
use Rattle.ddt_loop.specs.declared.requester.Requester.{Requester}
use Rattle.ddt_loop.specs.declared.requester.Requester.TheVariants.{Identifier, Itr}
use Rattle.ddt_loop.specs.declared.requester.WaitingRequester.{WaitingRequester}
use Rattle.ddt_loop.specs.Acts.{sent_if, IsSent, IsToldItr}
use Rattle.ddt_loop.specs.Right.{WasAsked, ArePacketsFair, IsRightLoopEnd, IsNoReply, Owes, told, forgotten, other}

-- ---- what was asked, and what is fair

pub was_asked_more : (me server nonce x calls more : _) → WasAsked me server nonce x calls → WasAsked me server nonce x (calls ++ more)
was_asked_more me server nonce x calls more w = (w.0, Contains-append_left calls more _ w.1)

-- the first calls of fair ones are fair
pub fair_front : (r me calls more : _) → ArePacketsFair r me (calls ++ more) → ArePacketsFair r me calls
fair_front r me calls more fair earlier later room p bytes nonce rec x is = fair earlier (later ++ more) room p bytes nonce rec x (rw (is, append_assoc))

-- ---- the request that is tried

-- a datagram is tried
abbrev pub WasSent : Locator → Outgoing → List Call → Type 0
WasSent me d tries = (answer : Result (Unit {0}) NetFault) × (tries ≡ Tried me d.to d.port d.bytes answer ∷ [])

pub was_sent : (me d tries : _) → IsSent me d tries → WasSent me d tries
was_sent me d [] tried = absurd tried
was_sent me d (Received at room answer bytes ∷ rest) tried = absurd tried.0
was_sent me d (Tried at to port bytes answer ∷ []) tried = (answer, cc (tried.0.0, tried.0.1, tried.0.2, tried.0.3))
was_sent me d (Tried at to port bytes answer ∷ call ∷ rest) tried = absurd tried.1

-- ---- who may be replied to

-- the ITRs among those who wait
abbrev pub itr_of : Requester → List ItrRequest
itr_of (Identifier place) = []
itr_of (Itr q) = q ∷ []

abbrev pub itrs : List WaitingRequester → List ItrRequest
itrs [] = []
itrs (o ∷ waiting) = itr_of o.requester ++ itrs waiting

pub itrs_append : (before after : _) → itrs (before ++ after) ≡ itrs before ++ itrs after
itrs_append [] after = refl
itrs_append (p ∷ before) after = rw (itrs_append before after, append_assoc)

pub itrs_push : (waiting o : _) → itrs (waiting ++ o ∷ []) ≡ itrs waiting ++ itr_of o.requester
itrs_push waiting o = rw (itrs_append waiting (o ∷ []), append-nil (itr_of o.requester))

-- calls that try no reply
pub owes_others : {r me calls owed : _} (more : _) → Owes r me calls owed → All (IsNoReply me) more → Owes r me (calls ++ more) owed
owes_others [] o none = rw append-nil o
owes_others {me = me} (call ∷ more) o none =
    rw append_assoc at (owes_others more (other call o (All-head (IsNoReply me) call more none)) (All-tail (IsNoReply me) call more none))

-- a request
pub owes_request : {r me calls owed : _} (d tries nonce x : _) → Owes r me calls owed → WasSent me d tries
    → d.bytes ≡ request_bytes nonce x me → Owes r me (calls ++ tries) owed
owes_request {me = me} d tries nonce x o sent is = rw sent.1 (other (Tried me d.to d.port d.bytes sent.0) o (inr (nonce, x, is)))

none_tried : (me tries : _) → AreTried me [] tries → tries ≡ []
none_tried me [] t = refl
none_tried me (call ∷ tries) t = absurd t

-- the reply to an ITR: tried, or not there
pub owes_told : {r me calls : _} (before after q out tries : _) → Owes r me calls (before ++ q ∷ after)
    → out ≡ assignment r (xeid_path q.xeid) → IsToldItr me out q tries → Owes r me (calls ++ tries) (before ++ after)
owes_told {r} {me} {calls} before after q out tries o right tried = by (reply_to_itr out q) refl tried
  where
    by : (d : _) → reply_to_itr out q ≡ d → AreTried me (sent_if d) tries → Owes r me (calls ++ tries) (before ++ after)
    by None is t = rw (none_tried me tries t, append-nil) (forgotten before after q o)
    by (Some d) is t = let s = was_sent me d tries t in rw s.1 (told before after q d s.0 o (rw right at is))

-- ---- another socket

pub other_socket : (sockets k at me : _) → slice_get sockets k ≡ Some at → lists sockets me ≡ false → at ≢ me
other_socket sockets k at me is none same =
    let fails = fails_at (λ m. is_same_locator m me) sockets at none (in_get sockets k at is) in
    false≢true (sym fails ∙ rw same (is_same_locator_self me))

-- what is tried there replies to no ITR
pub no_replies_there : (at me ds tries : _) → at ≢ me → AreTried at ds tries → All (IsNoReply me) tries
no_replies_there at me [] [] apart tried = All-nil (IsNoReply me)
no_replies_there at me [] (call ∷ tries) apart tried = absurd tried
no_replies_there at me (d ∷ ds) [] apart tried = absurd tried
no_replies_there at me (d ∷ ds) (Received a room answer b ∷ tries) apart tried = absurd tried.0
no_replies_there at me (d ∷ ds) (Tried a to port b answer ∷ tries) apart tried =
    All-cons (IsNoReply me) (Tried a to port b answer) tries (inl (λ same. apart (sym tried.0.0 ∙ same))) (no_replies_there at me ds tries apart tried.1)

-- ---- the ends

pub open_ends : (r ids : _) → AllZip (IsRightLoopEnd r) ids (map (λ _. Unresolved) ids)
open_ends r [] = tt
open_ends r (x ∷ ids) = (tt, open_ends r ids)

pub end_set : (r ids ends i x end : _) → slice_get ids i ≡ Some x → IsRightLoopEnd r x end
    → AllZip (IsRightLoopEnd r) ids ends → AllZip (IsRightLoopEnd r) ids (slice_set ends i end)
end_set r [] ends i x end is right all = absurd (cc is)
end_set r (y ∷ ids) [] i x end is right all = absurd all
end_set r (y ∷ ids) (e ∷ ends) zero x end is right all = let same : y ≡ x = cc is in (rw same right, all.1)
end_set r (y ∷ ids) (e ∷ ends) (suc i) x end is right all = (all.0, end_set r ids ends i x end is right all.1)
