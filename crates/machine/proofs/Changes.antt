-- What changes a world, and how runs are cut.
use Rattle.std.proofs.Common.{◌≡◌, ℕ, List, [], ◌∷◌, refl, ap, Option, Some, None, inl, inr, ◌⊎◌}
use Rattle.std.specs.Prelude.{pred}
use Rattle.std.specs.FinMap as map
use Rattle.world.specs.declared.entry.Right.{Right}
use Rattle.world.specs.declared.entry.Holder.{Holder}
use Rattle.machine.specs.declared.request.Publish.{Publish}
use Rattle.machine.specs.declared.request.Request.TheVariants.{Unreadable, Get, Put}
use Rattle.machine.specs.declared.request.Event.TheVariants.{Requested, TeamAdd, GroupAdd, KeyAdd, KeyRevoke}
use Rattle.machine.specs.declared.request.Event.TheVariants.{KeysRevoke}
use Rattle.machine.specs.declared.reply.Decision.{Decision}
use Rattle.machine.specs.declared.reply.Decision.TheVariants.{Published}
use Rattle.world.specs.declared.registry.RegistryReply.{RegistryReply}
use Rattle.world.specs.declared.registry.RegistryReply.TheVariants.{Done}
use Rattle.machine.specs.declared.reply.Reply.TheVariants as reply
use Rattle.machine.specs.declared.reply.Answer.TheVariants.{Replied, Failed}
use Rattle.world.specs.World.{World}
use Rattle.machine.specs.Machine.{decision, after_decision, after}
use Rattle.world.specs.Registry.{team_added, group_added, key_added, key_revoked, after_team_add, after_group_add}
use Rattle.world.specs.Registry.{after_key_add, after_key_revoke, keys_revoked, after_keys_revoke}
use Rattle.machine.specs.Laws.{BodiesChangeNothing, IsChange, OnlyChangesChange, RunsAreCut, RunsAreJoined}
use Rattle.machine.proofs.Runs.{run_more}

pub bodies_change_nothing : BodiesChangeNothing
bodies_change_nothing w Unreadable body = refl
bodies_change_nothing w (Get k q) body = refl
bodies_change_nothing w (Put k p) body = absurd body

put_changes : (w : World) (h : Option Holder) (p : Publish) (d : Decision)
    → IsChange (reply.Decided d) ⊎ (after_decision w h p d ≡ w)
put_changes w h p Published = inl tt
put_changes w None p d = inr refl
put_changes w (Some h) p d = inr refl

team_changes : (w : World) (t : List ℕ) (group : Option (List ℕ)) (r : RegistryReply)
    → IsChange (reply.Registry r) ⊎ (after_team_add w t group r ≡ w)
team_changes w t group Done = inl tt
team_changes w t group r = inr refl

group_changes : (w : World) (g : List ℕ) (r : RegistryReply) → IsChange (reply.Registry r) ⊎ (after_group_add w g r ≡ w)
group_changes w g Done = inl tt
group_changes w g r = inr refl

key_changes : (w : World) (s k : List ℕ) (right : Right) (r : RegistryReply)
    → IsChange (reply.Registry r) ⊎ (after_key_add w s k right r ≡ w)
key_changes w s k right Done = inl tt
key_changes w s k right r = inr refl

revoke_changes : (w : World) (k : List ℕ) (r : RegistryReply)
    → IsChange (reply.Registry r) ⊎ (after_key_revoke w k r ≡ w)
revoke_changes w k Done = inl tt
revoke_changes w k r = inr refl

revoke_all_changes : (w : World) (s : List ℕ) (r : RegistryReply)
    → IsChange (reply.Registry r) ⊎ (after_keys_revoke w s r ≡ w)
revoke_all_changes w s Done = inl tt
revoke_all_changes w s r = inr refl

pub only_changes_change : OnlyChangesChange
only_changes_change w (Requested Unreadable) = inr refl
only_changes_change w (Requested (Get k q)) = inr refl
only_changes_change w (Requested (Put k p)) = put_changes w (map.get w.keys k) p (decision w (map.get w.keys k) p)
only_changes_change w (TeamAdd t group) = team_changes w t group (team_added w t group)
only_changes_change w (GroupAdd g) = group_changes w g (group_added w g)
only_changes_change w (KeyAdd t k right) = key_changes w t k right (key_added w t k)
only_changes_change w (KeyRevoke k) = revoke_changes w k (key_revoked w k)
only_changes_change w (KeysRevoke s) = revoke_all_changes w s (keys_revoked w s)

pub runs_are_cut : RunsAreCut
runs_are_cut old new [] more [] last long run = (old, refl, run)
runs_are_cut old new [] more (a ∷ answers) last long run = cc
runs_are_cut old new (e ∷ es) more [] last long run = cc
runs_are_cut old new (e ∷ es) more (Replied r ∷ answers) last long run =
    let rest = runs_are_cut (after old e) new es more answers last (ap pred long) run.1 in
    (rest.0, (run.0, rest.1), rest.2)
runs_are_cut old new (e ∷ es) more (Failed fault ∷ answers) last long run =
    runs_are_cut old new es more answers last (ap pred long) run

pub runs_are_joined : RunsAreJoined
runs_are_joined old mid new events more answers last first second =
    run_more old mid new events more answers last first second
