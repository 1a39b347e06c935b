use Rattle.std.proofs.Common.{◌≡◌, ◌∷◌, ◌++◌, [], List, Some, inl, inr, refl, codes, subst, sym}
use Rattle.clap.specs.Faults.{entered_fault, turn_fault}
use Rattle.clap.specs.Simple.{built, names_of}
use Rattle.clap.specs.Walk.{Text, nothing_held, walk_from, walked}
use Rattle.clap.specs.declared.error.kind.ErrorKind.TheVariants.{DisplayHelp}
use Rattle.clap.proofs.OnLiterals.{clap_on_literals}
use Rattle.args.specs.Help.{HelpFollows, HelpFollowsEach, ShowHelp, ShowVersion}
use Rattle.args.specs.Table.{other_lines, program, store_lines}
use Rattle.args.proofs.HelpLemmas.{fails_below}
use Rattle.args.proofs.laws.help_comes_first.Goals as goal

pub returns-clause-help : goal.returns-clause-help
unfolding clap_on_literals
returns-clause-help c word rest (inl is) = subst (λ w. ShowHelp (w ∷ rest)) (sym is) refl
returns-clause-help c word rest (inr is) = subst (λ w. ShowHelp (w ∷ rest)) (sym is) refl

pub returns-clause-version : goal.returns-clause-version
unfolding clap_on_literals
returns-clause-version c word rest (inl is) = subst (λ w. ShowVersion (w ∷ rest)) (sym is) refl
returns-clause-version c word rest (inr is) = subst (λ w. ShowVersion (w ∷ rest)) (sym is) refl

-- a command that shows help for its first word shows it for the program
module _ (name : Text) (passes : turn_fault (built program).top (names_of (built program)) (walk_from nothing_held) name
    ≡ [])
    (stops : walked (built program).top.rules (names_of (built program)) (walk_from nothing_held) name
    ≡ record (walk_from nothing_held) { stopped = Some (name, []) }) where
  follows : ((rest : List Text) → entered_fault (built program) (Some (name, codes "--help" ∷ rest)) ≡ DisplayHelp ∷ [])
      → ((rest : List Text) → entered_fault (built program) (Some (name, codes "-h" ∷ rest)) ≡ DisplayHelp ∷ [])
      → HelpFollows name
  follows long short word rest (inl is) = subst (λ w. ShowHelp (name ∷ w ∷ rest)) (sym is)
      (fails_below (built program) name (codes "--help" ∷ rest) DisplayHelp [] passes stops (long rest))
  follows long short word rest (inr is) = subst (λ w. ShowHelp (name ∷ w ∷ rest)) (sym is)
      (fails_below (built program) name (codes "-h" ∷ rest) DisplayHelp [] passes stops (short rest))

follow_each : HelpFollowsEach (store_lines ++ other_lines)
unfolding clap_on_literals
follow_each = (
  follows (codes "init") refl refl (λ _. refl) (λ _. refl),
  (
    follows (codes "team-add") refl refl (λ _. refl) (λ _. refl),
    (
      follows (codes "group-add") refl refl (λ _. refl) (λ _. refl),
      (
        follows (codes "key-add") refl refl (λ _. refl) (λ _. refl),
        (
          follows (codes "key-revoke") refl refl (λ _. refl) (λ _. refl),
          (
            follows (codes "key-list") refl refl (λ _. refl) (λ _. refl),
            (
              follows (codes "shelf-list") refl refl (λ _. refl) (λ _. refl),
              (
                follows (codes "publish") refl refl (λ _. refl) (λ _. refl),
                (
                  follows (codes "import") refl refl (λ _. refl) (λ _. refl),
                  (
                    follows (codes "inventory") refl refl (λ _. refl) (λ _. refl),
                    (
                      follows (codes "catalog") refl refl (λ _. refl) (λ _. refl),
                      (
                        follows (codes "requires") refl refl (λ _. refl) (λ _. refl),
                        (
                          follows (codes "extract") refl refl (λ _. refl) (λ _. refl),
                          (
                            follows (codes "migrate") refl refl (λ _. refl) (λ _. refl),
                            (
                              follows (codes "answer") refl refl (λ _. refl) (λ _. refl),
                              (
                                follows (codes "serve") refl refl (λ _. refl) (λ _. refl),
                                (
                                  follows (codes "copy") refl refl (λ _. refl) (λ _. refl),
                                  (
                                    follows (codes "ping") refl refl (λ _. refl) (λ _. refl),
                                    (follows (codes "stop") refl refl (λ _. refl) (λ _. refl), tt),
                                  ),
                                ),
                              ),
                            ),
                          ),
                        ),
                      ),
                    ),
                  ),
                ),
              ),
            ),
          ),
        ),
      ),
    ),
  ),
)

pub returns-clause-of_command : goal.returns-clause-of_command
returns-clause-of_command c = follow_each
