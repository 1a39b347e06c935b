-- A run of the machine followed by another.
use Rattle.std.proofs.Common.{◌≡◌, ◌⊎◌, List, [], ◌∷◌, ◌++◌, refl, inl, inr}
use Rattle.machine.specs.declared.request.Event.{Event}
use Rattle.machine.specs.declared.reply.Answer.{Answer}
use Rattle.machine.specs.declared.reply.Answer.TheVariants.{Replied, Failed}
use Rattle.world.specs.World.{World}
use Rattle.machine.specs.Machine.{after, Run, MetDevice, world_after}

-- the world after both runs is the world after the second, from the world after the first
pub world_more : (old mid : World) (events more : List Event) (answers last : List Answer) → Run old events answers mid
    → world_after (world_after old events answers) more last ≡ world_after old (events ++ more) (answers ++ last)
world_more old mid [] more [] last run = refl
world_more old mid [] more (a ∷ answers) last run = absurd run
world_more old mid (e ∷ es) more [] last run = absurd run
world_more old mid (e ∷ es) more (Replied r ∷ answers) last run =
    world_more (after old e) mid es more answers last run.1
world_more old mid (e ∷ es) more (Failed fault ∷ answers) last run = world_more old mid es more answers last run

pub met_either : (answers last : List Answer) → MetDevice (answers ++ last) → MetDevice answers ⊎ MetDevice last
met_either [] last met = inr met
met_either (a ∷ answers) last (inl here) = inl (inl here)
met_either (a ∷ answers) last (inr later) = elim (met_either answers last later) [ inl x ↦ inl (inr x) | inr x ↦ inr x ]
