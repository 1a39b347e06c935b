-- Codes of worlds and of versions: encodings that lose nothing, so proofs can distinguish two values.
use Rattle.std.specs.Prelude.{ℕ, List, Bool, true, false, refl, ◌≡◌, Option}
use Rattle.std.specs.Coded.{Coded, code_by, coded×, coded_ℕ, coded_list, coded_bool, coded_option}
use Rattle.std.specs.FinMap as map
use Rattle.modver.specs.SemanticVersion.{SemanticVersion}
use Rattle.world.specs.declared.entry.Place.{Place}
use Rattle.world.specs.declared.entry.Entry.{Entry}
use Rattle.world.specs.declared.entry.Holder.{Holder}
use Rattle.world.specs.declared.entry.Right.{Right}
use Rattle.world.specs.declared.entry.Right.TheVariants.{Reads, Publishes}
use Rattle.world.specs.World.{World, text_cmp, place_cmp}

abbrev pub text_code : Coded (List ℕ)
text_code = coded_list coded_ℕ

abbrev pub version_code : Coded SemanticVersion
version_code =
    code_by (ℕ × (ℕ × (ℕ × (List (List ℕ) × Bool))))
    (coded× coded_ℕ (coded× coded_ℕ (coded× coded_ℕ (coded× (coded_list text_code) coded_bool))))
    (λ v. (v.major, (v.minor, (v.patch, (v.identifiers, v.marked)))))
    (λ p. record { major = p.0; minor = p.1.0; patch = p.1.1.0; identifiers = p.1.1.1.0; marked = p.1.1.1.1 })
    (λ _. refl)

abbrev may_publish : Right → Bool
may_publish Reads = false
may_publish Publishes = true

abbrev right_of : Bool → Right
right_of true = Publishes
right_of false = Reads

pub right_back : (r : Right) → right_of (may_publish r) ≡ r
right_back Reads = refl
right_back Publishes = refl

abbrev right_code : Coded Right
right_code = code_by Bool coded_bool may_publish right_of right_back

abbrev pub holder_code : Coded Holder
holder_code =
    code_by (List ℕ × Right) (coded× text_code right_code) (λ h. (h.shelf, h.right))
    (λ p. record { shelf = p.0; right = p.1 }) (λ _. refl)

abbrev pub entry_code : Coded Entry
entry_code =
    code_by (List ℕ × (List ℕ × Option (List ℕ))) (coded× text_code (coded× text_code (coded_option text_code)))
    (λ e. (e.gomod, (e.zip, e.time))) (λ p. record { gomod = p.0; zip = p.1.0; time = p.1.1 }) (λ _. refl)

abbrev pub place_code : Coded Place
place_code = code_by (List ℕ × (List ℕ × List ℕ)) (coded× text_code (coded× text_code text_code))
    (λ q. (q.shelf, (q.path, q.version))) (λ p. record { shelf = p.0; path = p.1.0; version = p.1.1 }) (λ _. refl)

abbrev pub world_code : Coded World
world_code =
    code_by (map.FinMap text_cmp Holder × (map.FinMap text_cmp (Option (List ℕ)) × map.FinMap place_cmp Entry))
    (coded× (map.code text_code holder_code)
    (coded× (map.code text_code (coded_option text_code)) (map.code place_code entry_code)))
    (λ w. (w.keys, (w.shelves, w.entries))) (λ p. record { keys = p.0; shelves = p.1.0; entries = p.1.1 }) (λ _. refl)
