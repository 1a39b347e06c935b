-- The lines of a catalog are JSON objects.
use Rattle.std.proofs.Common.{◌≡◌, ◌<◌, ◌^◌, ◌∙◌, ◌++◌, ℕ, List, [], ◌∷◌, Option, Some, None}
use Rattle.std.proofs.Common.{length, refl, sym, subst, ap, arith, append_assoc, append-nil}
use Rattle.std.specs.Prelude.{bytes_eq, codes, decimal, is_some}
use Rattle.std.specs.List.{AllByRecursion, concat, flat_map}
use Rattle.std.proofs.lemmas.Bool.{cond_both}
use Rattle.std.proofs.lemmas.List.Folds.{concat-append}
use Rattle.gomod.specs.Module.{GoModule}
use Rattle.gosum.specs.Sum.{hash_of}
use Rattle.modver.specs.SemanticVersion.{SemanticVersion, version_text}
use Rattle.world.specs.Forms.{path_of}
use Rattle.world.specs.GoMods.{module_in, reading_of}
use Rattle.world.specs.Latest.{latest_of}
use Rattle.world.specs.Lines.{in_order}
use Rattle.world.specs.Versions.{versions_of}
use Rattle.world.specs.Visible.{paths_seen}
use Rattle.world.specs.World.{World, IsEntry, IsWorld, common, heading_of, place, view}
use Rattle.outline.specs.Outline.{outline_of}
use Rattle.world.specs.declared.entry.Entry.{Entry}
use Rattle.world.specs.declared.entry.Place.{Place}
use Rattle.world.specs.declared.entry.Seen.{Seen}
use Rattle.world.proofs.SeenVersions.{entry_at}
use Rattle.catalog.specs.Catalog.{line_at, lines_at, lines_by, lines_of_text, marks_of, ruling, seen_line}
use Rattle.catalog.specs.Json.{AreUnescaped, IsObjectLine, number, string, string_text, member_text}
use Rattle.catalog.specs.Laws.{AreObjectLines, CatalogsAreJsonLines, LinesAreJson, name_if, names_of}
use Rattle.catalog.specs.Line.{flag_member, go_version_in, home, line, maybe_member, required_in, requirements, rest}
use Rattle.catalog.specs.Line.{text_member}
use Rattle.catalog.specs.declared.line.Marks.{Marks}
use Rattle.catalog.proofs.Hashes.{hash_unescaped}
use Rattle.catalog.proofs.Modules.{IsPlain, read_plain}
use Rattle.catalog.proofs.Numbers.{decimal_is_int}
use Rattle.catalog.proofs.Objects.{AreBehindCommas, both_behind, flag_behind, maybe_behind, object_line, of}
use Rattle.catalog.proofs.Objects.{requirements_value}
use Rattle.catalog.proofs.Objects.{text_behind, value_behind}
use Rattle.catalog.proofs.Unescaped.{MaybeUnescaped, entry_time, path_unescaped, text_unescaped}

-- ---- what stands in a line

-- the texts and the number in the line of an entry may stand in JSON
record MayStand (p t : List ℕ) (e : Entry) : Type 0 where
  path : AreUnescaped p
  version : AreUnescaped t
  time : MaybeUnescaped e.time
  go : MaybeUnescaped (go_version_in (module_in (reading_of e.gomod)))
  required : AllByRecursion IsPlain (required_in (module_in (reading_of e.gomod)))
  zip : length e.zip < 2 ^ 64

may_stand : (q : Place) (e : Entry) → IsEntry q e → MayStand q.path q.version e
may_stand q e is =
    let module' = read_plain _ e.gomod is.reads.says is.reads.reads in
    let same = ap module_in (sym is.reads.reads) in
    let small = is.zip in
    record {
      path = path_unescaped q.path is.path;
      version = text_unescaped q.version is.version.0 is.version.1;
      time = entry_time is.version.0 e.time is.time;
      go = subst (λ m. MaybeUnescaped (go_version_in m)) same module'.go;
      required = subst (λ m. AllByRecursion IsPlain (required_in m)) same module'.required;
      zip = omega arith;
    }

home_unescaped : (s owner : List ℕ) → AreUnescaped (home s owner)
home_unescaped s owner =
    cond_both (bytes_eq owner s) (codes "own") _ AreUnescaped (λ own. refl)
    (λ other. cond_both (bytes_eq owner common) (codes "common") (codes "group") AreUnescaped (λ is. refl) (λ is. refl))

-- ---- a line

spread : (head version time retracted latest go required shelf hash size end : List ℕ)
    → (head ++ version) ++ (time ++ ((retracted ++ latest) ++ ((go ++ required) ++ (shelf ++ (hash ++ (size ++ end))))))
    ≡ head ++ ((version ++ (time ++ (retracted ++ (latest ++ (go ++ (required ++ (shelf ++ (hash ++ size)))))))) ++ end)
spread head version time retracted latest go required shelf hash size end = simp append_assoc

-- the members behind the first
module _ (s t : List ℕ) (marks : Marks) (seen : Seen) where
  abbrev said : Option GoModule
  said = module_in (reading_of seen.entry.gomod)

  abbrev version : List ℕ
  version = text_member (codes "Version") t

  abbrev time : List ℕ
  time = maybe_member (codes "Time") seen.entry.time

  abbrev retracted : List ℕ
  retracted = flag_member (codes "Retracted") marks.is_retracted

  abbrev latest : List ℕ
  latest = flag_member (codes "Latest") marks.is_latest

  abbrev go : List ℕ
  go = maybe_member (codes "GoVersion") (go_version_in said)

  abbrev required : List ℕ
  required = codes ",\"Require\":[" ++ (requirements (required_in said) ++ codes "]")

  abbrev shelf : List ℕ
  shelf = text_member (codes "Shelf") (home s seen.shelf)

  abbrev hash : List ℕ
  hash = text_member (codes "GoModSum") (hash_of seen.entry.gomod)

  abbrev size : List ℕ
  size = codes ",\"ZipSize\":" ++ decimal (length seen.entry.zip)

  module _ (p : List ℕ) (may : MayStand p t seen.entry) where
    sums_behind : AreBehindCommas (codes "Require" ∷ codes "Shelf" ∷ codes "GoModSum" ∷ codes "ZipSize" ∷ [])
        (required ++ (shelf ++ (hash ++ size)))
    sums_behind =
        let zip = length seen.entry.zip in
        both_behind (codes "Require" ∷ []) _ required _
        (value_behind (codes "Require") _ refl (requirements_value (required_in said) may.required))
        (both_behind (codes "Shelf" ∷ []) _ shelf _
        (text_behind (codes "Shelf") (home s seen.shelf) refl (home_unescaped s seen.shelf))
        (both_behind (codes "GoModSum" ∷ []) _ hash size
        (text_behind (codes "GoModSum") (hash_of seen.entry.gomod) refl (hash_unescaped seen.entry.gomod))
        (value_behind (codes "ZipSize") (decimal zip) refl (number (decimal zip) (decimal_is_int zip may.zip)))))

    others_behind : AreBehindCommas (codes "Version" ∷ (name_if (is_some seen.entry.time) (codes "Time")
        ++ (name_if marks.is_retracted (codes "Retracted") ++ (name_if marks.is_latest (codes "Latest")
        ++ (name_if (is_some (go_version_in said)) (codes "GoVersion")
        ++ codes "Require" ∷ codes "Shelf" ∷ codes "GoModSum" ∷ codes "ZipSize" ∷ [])))))
        (version ++ (time ++ (retracted ++ (latest ++ (go ++ (required ++ (shelf ++ (hash ++ size))))))))
    others_behind =
        both_behind (codes "Version" ∷ []) _ version _ (text_behind (codes "Version") t refl may.version)
        (both_behind (name_if (is_some seen.entry.time) (codes "Time")) _ time _
        (maybe_behind (codes "Time") seen.entry.time refl may.time)
        (both_behind (name_if marks.is_retracted (codes "Retracted")) _ retracted _
        (flag_behind (codes "Retracted") marks.is_retracted refl)
        (both_behind (name_if marks.is_latest (codes "Latest")) _ latest _
        (flag_behind (codes "Latest") marks.is_latest refl)
        (both_behind (name_if (is_some (go_version_in said)) (codes "GoVersion")) _ go _
        (maybe_behind (codes "GoVersion") (go_version_in said) refl may.go) sums_behind))))

path_first : (p more : List ℕ) → codes "{\"Path\":\"" ++ (p ++ (codes "\"" ++ more))
    ≡ (codes "{" ++ member_text (of (codes "Path") (string_text p))) ++ more
path_first p more = simp append_assoc

line_is_object : (s p : List ℕ) (v : SemanticVersion) (marks : Marks) (seen : Seen)
    → MayStand p (version_text v) seen.entry → IsObjectLine (names_of marks seen.entry) (line s p v marks seen)
line_is_object s p v marks seen may =
    let t = version_text v in
    let head = codes "{" ++ member_text (of (codes "Path") (string_text p)) in
    let all = spread head (version s t marks seen) (time s t marks seen) (retracted s t marks seen)
    (latest s t marks seen) (go s t marks seen) (required s t marks seen) (shelf s t marks seen) (hash s t marks seen)
    (size s t marks seen) (codes "}\n") in
    let more = rest s marks (heading_of seen.entry) (outline_of seen) in
    let spelled = ap (λ l. l ++ more) (path_first p (version s t marks seen)) ∙ all in
    subst (IsObjectLine (names_of marks seen.entry)) (sym spelled)
    (object_line (codes "Path") (string_text p) _ _ refl (string p may.path) (others_behind s t marks seen p may))

pub lines_are_json : LinesAreJson
lines_are_json w s p v marks seen is from =
    let t = version_text v in
    line_is_object s p v marks seen (may_stand (place seen.shelf p t) seen.entry (entry_at w is s p t (seen, from)))

-- ---- a catalog

record AreLines (text : List ℕ) : Type 0 where
  lines : List (List ℕ)
  are : AreObjectLines lines
  same : text ≡ concat lines

no_lines : AreLines []
no_lines = record { lines = []; are = tt; same = refl }

all_lines : (a b : List (List ℕ)) → AreObjectLines a → AreObjectLines b → AreObjectLines (a ++ b)
all_lines [] b x y = y
all_lines (l ∷ a) b x y = (x.0, all_lines a b x.1 y)

both_lines : (a b : List ℕ) → AreLines a → AreLines b → AreLines (a ++ b)
both_lines a b x y = record {
  lines = x.lines ++ y.lines;
  are = all_lines x.lines y.lines x.are y.are;
  same = ap (λ l. l ++ b) x.same ∙ ap (λ l. concat x.lines ++ l) y.same ∙ sym (concat-append x.lines y.lines);
}

each_lines : {X : Type 0} (f : X → List ℕ) → ((x : X) → AreLines (f x)) → (xs : List X) → AreLines (flat_map f xs)
each_lines f each [] = no_lines
each_lines f each (x ∷ xs) = both_lines (f x) (flat_map f xs) (each x) (each_lines f each xs)

module _ (w : World) (s : List ℕ) (is : IsWorld w) where
  seen_lines : (p : List ℕ) (v : SemanticVersion) (marks : Marks) (o : Option Seen) → view w s p (version_text v) ≡ o
      → AreLines (seen_line s p v marks o)
  seen_lines p v marks None from = no_lines
  seen_lines p v marks (Some seen) from = record {
    lines = line s p v marks seen ∷ [];
    are = ((names_of marks seen.entry, lines_are_json w s p v marks seen is from), tt);
    same = sym (append-nil (line s p v marks seen));
  }

  lines_of_all : (p : List ℕ) (m : Option GoModule) (latest : Option SemanticVersion) (vs : List SemanticVersion)
      → AreLines (lines_by w s p m latest vs)
  lines_of_all p m latest vs =
      each_lines (λ v. line_at w s p v (marks_of m latest v))
      (λ v. seen_lines p v (marks_of m latest v) (view w s p (version_text v)) refl) vs

  path_lines : (o : Option (List ℕ)) → AreLines (lines_at w s o)
  path_lines None = no_lines
  path_lines (Some p) = lines_of_all p (ruling w s p) (latest_of w s p) (versions_of w s p)

pub catalogs_are_json_lines : CatalogsAreJsonLines
catalogs_are_json_lines w s is =
    let all = each_lines (lines_of_text w s) (λ t. path_lines w s is (path_of t)) (in_order (paths_seen w s)) in
    (all.lines, all.are, all.same)
