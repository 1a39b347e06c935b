-- What was done at sockets.
use Rattle.std.specs.Prelude.{ℕ, ◌≡◌, List, [], ◌∷◌, ◌++◌, All, IfSome, length, Option, Some, None}
use Rattle.network.specs.declared.deed.Deed.{Deed}
use Rattle.network.specs.declared.deed.Deed.TheVariants.{Connected, Unconnected, Ended}
use Rattle.network.specs.declared.servers.Wait.{Wait}
use Rattle.network.specs.declared.servers.Wait.TheVariants.{Second}

-- a deed, with the path of its socket, or with none for the end of a connection
abbrev pub Done : Type 0 → Type 0
Done L = List ℕ × Deed L

-- What is done where the server of a path is asked once: it could not be connected to, or each read waited at most a
-- second, and this is left of the connection.
abbrev pub deeds_of : {L : Type 0} → List ℕ → Option L → List (Done L)
deeds_of path None = (path, Unconnected) ∷ []
deeds_of path (Some link) = (path, Connected Second) ∷ ([], Ended link) ∷ []

abbrev pub deeds_between : {L : Type 0} → List ℕ → List (Option L) → List (Done L)
deeds_between path [] = []
deeds_between path (asked ∷ more) = deeds_of path asked ++ deeds_between path more

-- A span of a history: what was done before it and after it.
module _ {L : Type 0} (before after : List (Done L)) where
  -- nothing was connected to
  abbrev pub IsIdle : Type 0
  IsIdle = after ≡ before

  -- the server of this path could not be connected to, and nothing else was connected to
  abbrev pub Fails : List ℕ → Type 0
  Fails path = after ≡ before ++ (path, Unconnected) ∷ []

  -- The server of this path was connected to once, each read waited so long, this passed over the connection, and it was
  -- ended. Nothing else was connected to.
  pub record Calls (path : List ℕ) (Waits : Wait → Type 0) (Passes : L → Type 0) : Type 0 where
    pub wait : Wait
    pub waits : Waits wait
    pub link : L
    pub passes : Passes link
    pub done : after ≡ before ++ (path, Connected wait) ∷ ([], Ended link) ∷ []

  -- So it was; meanwhile the server of this path was asked so many times in between, each time over a connection of its
  -- own, over which this passed and each read waited at most a second, or it could not be connected to.
  pub record CallsMeanwhile (path : List ℕ) (Waits : Wait → Type 0) (Passes : ℕ → L → Type 0)
      (PassesBetween : L → Type 0) : Type 0 where
    pub wait : Wait
    pub waits : Waits wait
    pub link : L
    pub between : List (Option L)
    pub passes : Passes (length between) link
    pub each : All (λ asked. IfSome asked PassesBetween) between
    pub done : after ≡ before ++ (path, Connected wait) ∷ (deeds_between path between ++ ([], Ended link) ∷ [])
