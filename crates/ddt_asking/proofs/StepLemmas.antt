-- What is done in some steps and then in others.
use Rattle.std.proofs.Common.{ℕ, List, [], ◌∷◌, ◌++◌, map, sym, subst}
use Rattle.std.proofs.lemmas.List.{map-append}
use Rattle.std.specs.Prelude.{Option}
use Rattle.ddt_sockets.specs.declared.wire_calls.Call.{Call}
use Rattle.ddt_sockets.specs.Calls.{RecordsCalls}
use Rattle.ddt_sockets.specs.laws.Tell.{tells_both, tells_none}
use Rattle.ddt_asking.specs.Steps.{WireStep, step_of, HasDone}

abbrev calls_of : List WireStep → List Call
calls_of steps = map (λ (s : WireStep). s.call) steps

abbrev moments_of : List WireStep → List ℕ
moments_of steps = map (λ (s : WireStep). s.moment) steps

pub nothing_done : (told : Option (List Call)) (read : Option (List ℕ)) → HasDone told told read read []
nothing_done told read = record { calls = tells_none told; moments = tells_none read }

-- a call, and the reading behind it
pub one_done : (told telling : Option (List Call)) (read reading : Option (List ℕ)) (call : Call) (moment : ℕ)
    → RecordsCalls told (call ∷ []) telling → RecordsCalls read (moment ∷ []) reading
    → HasDone told telling read reading (step_of call moment ∷ [])
one_done told telling read reading call moment tells reads = record { calls = tells; moments = reads }

pub both_done : (told midway telling : Option (List Call)) (read between reading : Option (List ℕ))
    (first second : List WireStep) → HasDone told midway read between first → HasDone midway telling between reading second
    → HasDone told telling read reading (first ++ second)
both_done told midway telling read between reading first second one two = record {
  calls = subst (λ (calls : List Call). RecordsCalls told calls telling)
      (sym (map-append (λ (s : WireStep). s.call) first second))
      (tells_both told (calls_of first) midway (calls_of second) telling one.calls two.calls);
  moments = subst (λ (moments : List ℕ). RecordsCalls read moments reading)
      (sym (map-append (λ (s : WireStep). s.moment) first second))
      (tells_both read (moments_of first) between (moments_of second) reading one.moments two.moments);
}
