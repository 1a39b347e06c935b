-- A parse whose first word names a command fails as the command does.
use Rattle.std.proofs.Common.{◌≡◌, ◌∷◌, ◌∙◌, [], List, Some, ap, refl, sym}
use Rattle.std.specs.Prelude.{fold}
use Rattle.clap.specs.Faults.{built_fault, entered_fault, turn_fault, walk_fault}
use Rattle.clap.specs.Kinds.{Kinds, or_else}
use Rattle.clap.specs.Simple.{App, names_of}
use Rattle.clap.specs.Walk.{Text, Walk, nothing_held, walk, walk_from, walked}
use Rattle.clap.specs.declared.error.kind.ErrorKind.{ErrorKind}
use Rattle.clap.proofs.FaultLemmas.{stopped_fault}
use Rattle.clap.proofs.WalkLemmas.{walk_stopped}

module _ (a : App) (name : Text) (rest : List Text) (first : ErrorKind) (more : Kinds)
    (passes : turn_fault a.top (names_of a) (walk_from nothing_held) name ≡ [])
    (stops : walked a.top.rules (names_of a) (walk_from nothing_held) name
    ≡ record (walk_from nothing_held) { stopped = Some (name, []) }) where
  is_stopped : (walk a.top.rules (names_of a) nothing_held (name ∷ rest)).stopped ≡ Some (name, rest)
  is_stopped = ap (λ (w : Walk). (fold (walked a.top.rules (names_of a)) w rest).stopped) stops
      ∙ sym (ap (λ (w : Walk). w.stopped) (walk_stopped a.top.rules (names_of a) (walk_from nothing_held) name [] rest))

  all_pass : walk_fault a.top (names_of a) (walk_from nothing_held) (name ∷ rest) ≡ []
  unfolding walk_fault
  all_pass = ap (λ kinds. or_else kinds
      (walk_fault a.top (names_of a) (walked a.top.rules (names_of a) (walk_from nothing_held) name) rest)) passes
      ∙ ap (λ w. walk_fault a.top (names_of a) w rest) stops
      ∙ stopped_fault a.top (names_of a) (walk_from nothing_held) (name, []) rest

  pub fails_below : entered_fault a (Some (name, rest)) ≡ first ∷ more
      → built_fault a nothing_held (name ∷ rest) ≡ first ∷ more
  fails_below fails =
      let below : entered_fault a (walk a.top.rules (names_of a) nothing_held (name ∷ rest)).stopped ≡ first ∷ more =
      ap (entered_fault a) is_stopped ∙ fails in
      rw (all_pass, below) refl
