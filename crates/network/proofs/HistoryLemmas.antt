-- One deed after another.
use Rattle.std.proofs.Common.{ℕ, ◌≡◌, List, [], ◌∷◌, ◌++◌, ◌∙◌, Option, ap}
use Rattle.std.specs.Prelude.{All, IfSome, length}
use Rattle.std.proofs.lemmas.List.{append_assoc}
use Rattle.network.specs.History.{Done, Calls, CallsMeanwhile, deeds_between}
use Rattle.network.specs.declared.deed.Deed.TheVariants.{Connected, Ended}
use Rattle.network.specs.declared.servers.Wait.{Wait}

-- a connection that was made, and then ended
pub called : {L : Type 0} (before mid after : List (Done L)) (path : List ℕ) (Waits : Wait → Type 0)
    (Passes : L → Type 0) (wait : Wait) (link : L) → Waits wait → Passes link
    → mid ≡ before ++ (path, Connected wait) ∷ [] → after ≡ mid ++ ([], Ended link) ∷ []
    → Calls before after path Waits Passes
called before mid after path Waits Passes wait link waits passes connected ended = record {
  wait = wait;
  waits = waits;
  link = link;
  passes = passes;
  done = ended ∙ (ap (λ m. m ++ ([], Ended link) ∷ []) connected
      ∙ append_assoc before ((path, Connected wait) ∷ []) (([], Ended link) ∷ []));
}

-- so it is where the server was asked in between
pub called_meanwhile : {L : Type 0} (before made mid after : List (Done L)) (path : List ℕ) (Waits : Wait → Type 0)
    (Passes : ℕ → L → Type 0) (Between : L → Type 0) (wait : Wait) (link : L) (between : List (Option L)) → Waits wait
    → Passes (length between) link
    → All (λ asked. IfSome asked Between) between → made ≡ before ++ (path, Connected wait) ∷ []
    → mid ≡ made ++ deeds_between path between → after ≡ mid ++ ([], Ended link) ∷ []
    → CallsMeanwhile before after path Waits Passes Between
called_meanwhile before made mid after path Waits Passes Between wait link between waits passes each connected asked
    ended =
    let last = ([], Ended link) ∷ [] in
    let deeds = deeds_between path between in
    record {
      wait = wait;
      waits = waits;
      link = link;
      passes = passes;
      between = between;
      each = each;
      done = ended ∙ ap (λ m. m ++ last) (asked ∙ ap (λ m. m ++ deeds) connected)
          ∙ append_assoc (before ++ (path, Connected wait) ∷ []) deeds last
          ∙ append_assoc before ((path, Connected wait) ∷ []) (deeds ++ last);
    }
