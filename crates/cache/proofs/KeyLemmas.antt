-- A kept key holds what is kept with it, also once another key is added.
use Rattle.std.proofs.Common.{◌≡◌, ◌∙◌, ℕ, List, Bool, true, false, None, Some, refl, sym, ap, subst}
use Rattle.std.specs.Prelude.{bytes_eq, IsTrue, not, if◌then◌else◌}
use Rattle.std.specs.FinMap as map
use Rattle.world.specs.World.{World, is_key, with_key}
use Rattle.world.specs.Registry.{key_added}
use Rattle.world.specs.declared.entry.Holder.{Holder}
use Rattle.world.specs.declared.registry.RegistryReply.TheVariants.{Done, Name, NoTeam, Taken}
use Rattle.world.proofs.Orders.{texts_total, texts_exact, get_elsewhere, text_same}
use Rattle.cache.specs.declared.keys.KeptKey.{KeptKey}
use Rattle.cache.specs.Keys.{AreKeys}
use Rattle.cache.specs.Recent.{Holds}
use Rattle.cache.proofs.GroupLemmas.{none_there}
use Rattle.cache.proofs.RecentLemmas.{Held}

pub found_key : (w : World) (keys : Held KeptKey) (it : KeptKey) (k : List ℕ) → Holds keys it
    → IsTrue (bytes_eq it.key k) → AreKeys w keys → map.get w.keys k ≡ Some it.holder
found_key w keys it k at is are = subst (λ t. map.get w.keys t ≡ Some it.holder) (text_same it.key k is) (are it at)

-- a key that was added was free
is_free : (fits stands there : Bool)
    → (if not fits then Name else if not stands then NoTeam else if there then Taken else Done) ≡ Done → there ≡ false
is_free true true false e = refl
is_free true true true e = absurd (cc e)
is_free true false there e = absurd (cc e)
is_free false stands there e = absurd (cc e)

new_key : (w : World) (s k : List ℕ) → key_added w s k ≡ Done → map.get w.keys k ≡ None
new_key w s k e = none_there (map.get w.keys k)
    (is_free (is_key k) (map.contains_key w.shelves s) (map.contains_key w.keys k) e)

-- keys stay right when one that was free is added
pub keys_still : (w : World) (s k : List ℕ) (h : Holder) → key_added w s k ≡ Done → (keys : Held KeptKey)
    → AreKeys w keys → AreKeys (with_key w k h) keys
keys_still w s k h added keys are it at =
    let elsewhere : it.key ≡ k → ⊥ = λ same. let never : None ≡ Some it.holder = sym (new_key w s k added)
    ∙ (ap (map.get w.keys) (sym same) ∙ are it at) in cc never in
    get_elsewhere texts_total texts_exact w.keys k h it.key elsewhere ∙ are it at
