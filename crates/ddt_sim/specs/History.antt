-- What has happened in a schedule: one line for each step, the newest first.
use Rattle.std.specs.Prelude.{◌≡◌, ◌⊎◌, List, [], ◌∷◌, ◌++◌, reverse, map}
use Rattle.ddt_resolver.specs.State.{State}
use Rattle.ddt_sim.specs.declared.schedule.Step.{Step}
use Rattle.ddt_sim.specs.declared.schedule.Event.{Event}
use Rattle.ddt_sim.specs.declared.schedule.Transcript.{Transcript}
use Rattle.ddt_sim.specs.World.{World, world, Members, WorldStep, WantsMemory}

-- a step, what came of it, and the world before and after it
pub record Line : Type 0 where
  pub before : World
  pub step : Step
  pub event : Event
  pub after : World

-- a run from one world to another
pub data History (servers : Members) (start : World) : List Line → World → Type 0 where
  begin : History servers start [] start
  next : {past : List Line} {w new : World} (step : Step) (event : Event) → History servers start past w
      → WorldStep servers w step event new
      → History servers start (record { before = w; step = step; event = event; after = new } ∷ past) new

-- what holds of some line
abbrev pub Among : List Line → (Line → Type 0) → Type 0
Among [] holds = ⊥
Among (line ∷ past) holds = holds line ⊎ Among past holds

-- what holds of each line and the lines before it
abbrev pub Each : (List Line → Line → Type 0) → List Line → Type 0
Each holds [] = Unit {0}
Each holds (line ∷ past) = holds past line × Each holds past

-- the steps and the events of a history, in the order in which they came
abbrev pub steps_of : List Line → List Step
steps_of past = reverse (map (λ line. line.step) past)

-- what came of each step, the oldest first, as a transcript lists it
abbrev pub events_of : List Line → List Event
events_of past = reverse (map (λ line. line.event) past)

-- a resolver in a world before anything was sent: the moment is its time, and the first servers are in force
abbrev pub at_start : State → World
at_start s = world s.known.time 0 [] s

-- A transcript of these steps tells this history: its events and its datagrams, from one state of the resolver to
-- another, over these servers.
pub record IsTranscriptOf (servers : Members) (old : State) (steps : List Step) (t : Transcript) (new : State)
    (past : List Line) : Type 0 where
  pub last : World
  pub history : History servers (at_start old) past last
  pub steps_are : steps ≡ steps_of past
  pub events_are : t.events ≡ events_of past
  pub sent_are : t.sent ≡ last.sent
  pub state_is : new ≡ last.state

-- the next step calls the resolver, which wants memory: nothing is done but for its time
pub record WantsNext (w : World) (rest : List Step) (new : State) : Type 0 where
  pub step : Step
  pub more : List Step
  pub first : rest ≡ step ∷ more
  pub wants : WantsMemory w step new

-- a history that a run has until memory stops it: some first steps, then at most a call that wants memory
pub record StopsAfter (servers : Members) (old : State) (steps : List Step) (new : State) : Type 0 where
  pub past : List Line
  pub rest : List Step
  pub last : World
  pub history : History servers (at_start old) past last
  pub steps_are : steps ≡ steps_of past ++ rest
  pub state_is : (new ≡ last.state) ⊎ WantsNext last rest new
