-- JSON objects, put together member by member.
use Rattle.std.proofs.Common.{◌≡◌, ◌∙◌, ◌++◌, ℕ, Bool, true, false, List, [], ◌∷◌, Option, Some, None, map, refl, sym}
use Rattle.std.proofs.Common.{subst, ap, append_assoc, append-nil}
use Rattle.std.specs.Prelude.{codes, is_some}
use Rattle.std.specs.List.{AllByRecursion, flat_map, join_with_byte}
use Rattle.std.proofs.lemmas.List.{map-append}
use Rattle.std.proofs.lemmas.List.Concat.{flat_map-append}
use Rattle.gomod.specs.declared.entries.Requirement.{Requirement}
use Rattle.modver.specs.SemanticVersion.{version_text}
use Rattle.catalog.specs.Json.{AreMembers, AreUnescaped, AreValues, IsObjectLine, IsValue, Member, member}
use Rattle.catalog.specs.Json.{literal_true, member_text, no_member, no_value, object, object_text, array, string}
use Rattle.catalog.specs.Json.{string_text, value}
use Rattle.catalog.specs.Laws.{name_if}
use Rattle.catalog.specs.Line.{flag_member, maybe_member, requirement, requirements, text_member}
use Rattle.catalog.proofs.Modules.{IsPlain}
use Rattle.catalog.proofs.Unescaped.{MaybeUnescaped}

-- texts with a comma between two are the first and the others, each behind a comma
joined : {X : Type 0} (f : X → List ℕ) (x : X) (xs : List X)
    → join_with_byte 44 (map f (x ∷ xs)) ≡ f x ++ flat_map (λ y. codes "," ++ f y) xs
joined f x [] = sym (append-nil (f x))
joined f x (y ∷ ys) = ap (λ l. f x ++ (44 ∷ l)) (joined f y ys)

abbrev pub behind_commas : List Member → List ℕ
behind_commas ms = flat_map (λ m. codes "," ++ member_text m) ms

-- members of these names, each behind a comma
pub record AreBehindCommas (names : List (List ℕ)) (text : List ℕ) : Type 0 where
  pub members : List Member
  pub values : AreMembers members
  pub named : map (λ m. m.name) members ≡ names
  pub spelled : text ≡ behind_commas members

both_values : (ms ns : List Member) → AreMembers ms → AreMembers ns → AreMembers (ms ++ ns)
both_values _ ns no_member k = k
both_values _ ns (member m ms name is rest) k = member m (ms ++ ns) name is (both_values ms ns rest k)

pub both_behind : (ns ms : List (List ℕ)) (t u : List ℕ) → AreBehindCommas ns t → AreBehindCommas ms u
    → AreBehindCommas (ns ++ ms) (t ++ u)
both_behind ns ms t u x y = record {
  members = x.members ++ y.members;
  values = both_values x.members y.members x.values y.values;
  named = map-append (λ m. m.name) x.members y.members ∙ ap (λ l. l ++ map (λ m. m.name) y.members) x.named
      ∙ ap (λ l. ns ++ l) y.named;
  spelled = ap (λ l. l ++ u) x.spelled ∙ ap (λ l. behind_commas x.members ++ l) y.spelled
      ∙ sym (flat_map-append (λ m. codes "," ++ member_text m) x.members y.members);
}

abbrev pub of : List ℕ → List ℕ → Member
of name text = record { name = name; value = text }

no_members_behind : AreBehindCommas [] []
no_members_behind = record { members = []; values = no_member; named = refl; spelled = refl }

pub value_behind : (name text : List ℕ) → AreUnescaped name → IsValue text
    → AreBehindCommas (name ∷ []) (codes ",\"" ++ (name ++ (codes "\":" ++ text)))
value_behind name text plain is = record {
  members = of name text ∷ [];
  values = member (of name text) [] plain is no_member;
  named = refl;
  spelled = ap (λ l. codes ",\"" ++ l) (sym (append_assoc name (codes "\"") (codes ":" ++ text)))
      ∙ sym (append-nil (codes "," ++ member_text (of name text)));
}

pub text_behind : (name text : List ℕ) → AreUnescaped name → AreUnescaped text
    → AreBehindCommas (name ∷ []) (text_member name text)
text_behind name text plain is = value_behind name (string_text text) plain (string text is)

pub maybe_behind : (name : List ℕ) (text : Option (List ℕ)) → AreUnescaped name → MaybeUnescaped text
    → AreBehindCommas (name_if (is_some text) name) (maybe_member name text)
maybe_behind name None plain is = no_members_behind
maybe_behind name (Some text) plain is = text_behind name text plain is

pub flag_behind : (name : List ℕ) (flag : Bool) → AreUnescaped name
    → AreBehindCommas (name_if flag name) (flag_member name flag)
flag_behind name true plain = value_behind name (codes "true") plain literal_true
flag_behind name false plain = no_members_behind

-- ---- requirements

requirement_value : (r : Requirement) → IsPlain r → IsValue (requirement r)
requirement_value r is =
    let path = of (codes "Path") (string_text r.path) in
    let version = of (codes "Version") (string_text (version_text r.version)) in
    let same : object_text (path ∷ version ∷ []) ≡ requirement r = simp append_assoc in
    subst IsValue same (object (path ∷ version ∷ [])
    (member path (version ∷ []) refl (string r.path is.path)
    (member version [] refl (string (version_text r.version) is.version) no_member)))

requirement_values : (rs : List Requirement) → AllByRecursion IsPlain rs → AreValues (map requirement rs)
requirement_values [] h = no_value
requirement_values (r ∷ rs) h =
    value (requirement r) (map requirement rs) (requirement_value r h.0) (requirement_values rs h.1)

joined_requirements : (rs : List Requirement) → join_with_byte 44 (map requirement rs) ≡ requirements rs
joined_requirements [] = refl
joined_requirements (r ∷ rs) = joined requirement r rs

pub requirements_value : (rs : List Requirement) → AllByRecursion IsPlain rs
    → IsValue (codes "[" ++ (requirements rs ++ codes "]"))
requirements_value rs h =
    subst (λ l. IsValue (codes "[" ++ (l ++ codes "]"))) (joined_requirements rs)
    (array (map requirement rs) (requirement_values rs h))

-- ---- a line

closed : (first behind all : List ℕ) → all ≡ first ++ behind
    → codes "{" ++ (first ++ (behind ++ codes "}\n")) ≡ (codes "{" ++ (all ++ codes "}")) ++ codes "\n"
closed first behind all is = rw is (simp append_assoc)

-- a first member and members behind commas, between braces, and an end of line
pub object_line : (name text : List ℕ) (names : List (List ℕ)) (others : List ℕ) → AreUnescaped name → IsValue text
    → AreBehindCommas names others
    → IsObjectLine (name ∷ names) (codes "{" ++ (member_text (of name text) ++ (others ++ codes "}\n")))
object_line name text names others plain is behind =
    let first = of name text in
    record {
      members = first ∷ behind.members;
      values = member first behind.members plain is behind.values;
      named = ap (λ l. name ∷ l) behind.named;
      spelled = closed (member_text first) others (join_with_byte 44 (map member_text (first ∷ behind.members)))
          (joined member_text first behind.members ∙ ap (λ l. member_text first ++ l) (sym behind.spelled));
    }
