-- Each event leads from a world to a world.
use Rattle.std.proofs.Common.{◌≡◌, [], ◌∷◌, true, refl, sym, subst, Option, Some, None}
use Rattle.std.specs.FinMap as map
use Rattle.world.specs.declared.entry.Place.{Place}
use Rattle.world.specs.declared.entry.Entry.{Entry}
use Rattle.world.specs.declared.entry.Holder.{Holder}
use Rattle.world.specs.World.{World, IsWorld}
use Rattle.world.specs.Registry.{team_added, group_added, key_added, key_revoked, keys_revoked}
use Rattle.world.specs.Store.{IsRoomFor}
use Rattle.world.proofs.Sound.{entry_added, sound_team, sound_group, sound_key, sound_revoke, sound_keys_revoke}
use Rattle.machine.specs.declared.request.Publish.{Publish}
use Rattle.machine.specs.declared.request.Request.TheVariants.{Unreadable, Get, Put}
use Rattle.machine.specs.declared.request.Event.TheVariants.{Requested, TeamAdd, GroupAdd, KeyAdd, KeyRevoke}
use Rattle.machine.specs.declared.request.Event.TheVariants.{KeysRevoke}
use Rattle.machine.specs.declared.reply.Decision.{Decision}
use Rattle.machine.specs.declared.reply.Decision.TheVariants.{Published}
use Rattle.machine.specs.declared.reply.Answer.TheVariants.{Replied, Failed}
use Rattle.machine.specs.Machine.{decision, after_decision, stored, offered, place_of, after}
use Rattle.machine.specs.Laws.{WorldStays, RunsKeepWorlds}
use Rattle.machine.proofs.Checks.{room_for}

sound_stored : (w : World) (q : Place) (o : Option Entry) → IsWorld w → ((e : Entry) → o ≡ Some e → IsRoomFor w q e)
    → IsWorld (stored w q o)
sound_stored w q None is room = is
sound_stored w q (Some e) is room = entry_added w q e is (room e refl)

sound_decided : (w : World) (h : Holder) (p : Publish) (d : Decision) → IsWorld w
    → map.contains_key w.shelves h.shelf ≡ true → decision w (Some h) p ≡ d → IsWorld (after_decision w (Some h) p d)
sound_decided w h p Published is stands e =
    sound_stored w (place_of h.shelf p) (offered p) is (λ x at. room_for w h p x stands e at)
sound_decided w h p d is stands e = is

sound_put : (w : World) (o : Option Holder) (p : Publish) → IsWorld w
    → ((h : Holder) → o ≡ Some h → map.contains_key w.shelves h.shelf ≡ true)
    → IsWorld (after_decision w o p (decision w o p))
sound_put w None p is stands = is
sound_put w (Some h) p is stands = sound_decided w h p _ is (stands h refl) refl

pub sound : WorldStays
sound w (Requested Unreadable) is = is
sound w (Requested (Get k q)) is = is
sound w (Requested (Put k p)) is = sound_put w (map.get w.keys k) p is (λ h e. is.keys_stand k h e)
sound w (TeamAdd t group) is = sound_team w t group (team_added w t group) is refl
sound w (GroupAdd g) is = sound_group w g (group_added w g) is refl
sound w (KeyAdd t k right) is = sound_key w t k right (key_added w t k) is refl
sound w (KeyRevoke k) is = sound_revoke w k (key_revoked w k) is
sound w (KeysRevoke t) is = sound_keys_revoke w t (keys_revoked w t) is

pub world_through : RunsKeepWorlds
world_through w new [] [] is run = subst IsWorld (sym run) is
world_through w new [] (a ∷ answers) is run = absurd run
world_through w new (e ∷ es) [] is run = absurd run
world_through w new (e ∷ es) (Replied r ∷ answers) is run =
    world_through (after w e) new es answers (sound w e is) run.1
world_through w new (e ∷ es) (Failed fault ∷ answers) is run = world_through w new es answers is run
