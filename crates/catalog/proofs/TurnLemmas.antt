-- Lines that were printed one after another, with turns between them.
use Rattle.std.proofs.Common.{◌≡◌, ◌≤◌, ◌∙◌, ◌++◌, ℕ, List, [], ◌∷◌, Option, None, Result, Ok, Err, refl, sym, ap}
use Rattle.std.proofs.Common.{append-nil, append_assoc, arith, subst}
use Rattle.std.proofs.lemmas.List.Elements.{Contains-append_right}
use Rattle.std.proofs.KnownBytes.{Appends-nil, Appends-trans}
use Rattle.std.specs.FinMap as map
use Rattle.std.specs.FinSet as set
use Rattle.std.specs.Io.KnownBytes.{Appends}
use Rattle.std.specs.List.{flat_map}
use Rattle.std.specs.Prelude.{cond, Contains, IsErrAnd, IsErrOf, OnErr, OnOk}
use Rattle.interleave.specs.Interleave.{IsSince, Notes, StandsForOne}
use Rattle.world.proofs.Causes.{grown_before}
use Rattle.world.proofs.Members.{first_member}
use Rattle.world.specs.Store.{Shown, Reads}
use Rattle.world.specs.World.{World, IsWorld, place_cmp}
use Rattle.world.specs.declared.registry.StoreFault.{StoreFault}
use Rattle.world.specs.declared.registry.StoreFault.TheVariants as fault
use Rattle.histories.specs.Calls.{Writes}
use Rattle.catalog.specs.Meanwhile.{
  FailsOn,
  IsCut,
  IsNotOutput,
  PrintsOn,
  StaysOn,
  past,
  there,
  unread_on,
}
use Rattle.catalog.specs.Printing.{FailsBy, Puts}
use Rattle.catalog.specs.declared.between.CatalogEnd.{CatalogEnd}
use Rattle.catalog.specs.declared.between.CatalogEnd.TheVariants as end
use Rattle.catalog.specs.declared.print.PrintError.{PrintError}
use Rattle.catalog.specs.declared.print.PrintError.TheVariants as why
use Rattle.catalog.proofs.Printed.{Streams}

-- ---- faults

-- a fault of a device is told as one
pub told_on : {T U : Type 0} (f : StoreFault) → IsErrOf {T = U} (Err (unread_on f)) (end.PrintError why.Device)
    → IsErrOf {T = T} (Err f) fault.Device
told_on fault.Device failed = refl
told_on fault.Memory failed = cc

-- after a fault of the store nothing was printed
pub fault_on : {T U : Type 0} (a b : Shown) (f : StoreFault) (value : World → U) (lines : World → List ℕ)
    (may : World → Type 0) (written : Option (List ℕ)) → ((w : World) → lines w ≡ [] → may w) → Reads a b (Err f) value
    → PrintsOn {T = T} a b written written (Err (unread_on f)) lines may
fault_on a b f value lines may written none read = record {
  printed = [];
  appends = Appends-nil written;
  honest = read.honest;
  at = λ h w stands. record { all = tt; front = (lines w, refl); cut = λ failed all. none w (sym all); stays = tt };
  no_fewer = read.cause.no_fewer;
  device = λ failed. read.cause.device (told_on f failed);
}

-- nor did the store stay as it is after one
pub fault_stays : {T U : Type 0} (a b : Shown) (f : StoreFault) (value : World → U) → Reads a b (Err f) value
    → StaysOn {T = T} a b (Err (unread_on f))
fault_stays a b f value read = record {
  honest = read.honest;
  at = λ h w stands. tt;
  no_fewer = read.cause.no_fewer;
  device = λ failed. read.cause.device (told_on f failed);
}

-- ---- turns

-- without a turn it is what it was
pub stays_itself : (a : Shown) → StaysOn {T = Unit {0}} a a (Ok tt)
stays_itself a = record {
  honest = λ h. h;
  at = λ h w stands. stands;
  no_fewer = omega arith;
  device = λ failed. absurd (let e = failed in cc);
}

module _ (a b c : Shown) (before after : set.FinSet place_cmp) (s : List ℕ) (read : Reads {T = Unit {0}} a b (Ok tt) (λ _. tt))
    (one : (w : World) → a.stands w → StandsForOne b) (honest : c.is_honest → b.is_honest) (no_fewer : b.failures ≤ c.failures) where
  -- after a turn with a store that stands for one world, it has come of the worlds of which it had come before
  pub turn_stays : Notes b c before after → StaysOn {T = Unit {0}} (past a before s) (past c after s) (Ok tt)
  turn_stays notes = record {
    honest = λ h. read.honest (honest h);
    at = λ h w been.
        let good = honest h in
        let stands = (read.at good been.later been.stands).stays in
        let it = notes h been.later stands in
        let same : it.was ≡ been.later = one been.later been.stands good it.was been.later it.stood stands in
        record {
          is = been.is;
          shelf = been.shelf;
          later = it.later;
          stands = it.stands;
          since = it.since w (subst (λ (v : World). IsSince w v before) (sym same) been.since);
        };
    no_fewer = let first = read.cause.no_fewer in omega (arith, first, no_fewer);
    device = λ failed. absurd (let e = failed in cc);
  }

  -- a turn may end it, or memory runs out for it
  pub turn_halts : (e : CatalogEnd) → (IsErrOf {T = Unit {0}} (Err e) (end.PrintError why.Device) → ⊥)
      → StaysOn {T = Unit {0}} (past a before s) (past c after s) (Err e)
  turn_halts e never = record {
    honest = λ h. read.honest (honest h);
    at = λ h w been. tt;
    no_fewer = let first = read.cause.no_fewer in omega (arith, first, no_fewer);
    device = λ failed. absurd (never failed);
  }

-- ---- a line

-- a line was printed, and then there were turns
pub line_on : (a b : Shown) (line : List ℕ) (written now : Option (List ℕ)) (halts : Type 0)
    (result : Result (Unit {0}) CatalogEnd) → Appends written now line → StaysOn a b result → OnErr result halts
    → PrintsOn a b written now result (λ _. line) (λ _. halts)
line_on a b line written now halts result put stays cause = record {
  printed = line;
  appends = put;
  honest = stays.honest;
  at = λ h w stands. record {
    all = all result;
    front = ([], sym (append-nil line));
    cut = λ failed _. halted result failed cause;
    stays = stays.at h w stands;
  };
  no_fewer = stays.no_fewer;
  device = stays.device;
}
  where
    halted : (r : Result (Unit {0}) CatalogEnd) → IsCut r → OnErr r halts → halts
    halted (Ok u) failed by = absurd failed
    halted (Err e) failed by = by

    all : (r : Result (Unit {0}) CatalogEnd) → OnOk r (line ≡ line)
    all (Ok u) = refl
    all (Err e) = tt

-- or the output failed
pub line_cut : (a : Shown) (line : List ℕ) (written now : Option (List ℕ)) (halts : Type 0) (e : PrintError)
    → Puts written now line (Err e)
    → PrintsOn {T = Unit {0}} a a written now (Err (end.PrintError e)) (λ _. line) (λ _. halts)
line_cut a line written now halts e put = record {
  printed = put.1.0;
  appends = put.1.2;
  honest = λ h. h;
  at = λ h w stands.
      record { all = tt; front = put.1.1; cut = λ failed _. absurd (not_cut e put.0 failed); stays = tt };
  no_fewer = omega arith;
  device = λ failed. absurd (not_device e put.0 failed);
}
  where
    not_device : (u : PrintError) → u ≡ why.Output
        → IsErrOf {T = Unit {0}} (Err (end.PrintError u)) (end.PrintError why.Device) → ⊥
    not_device u is failed = cc

    not_cut : (u : PrintError) → u ≡ why.Output → IsCut {T = Unit {0}} (Err (end.PrintError u)) → ⊥
    not_cut why.Output is failed = failed
    not_cut why.Device is failed = cc
    not_cut why.Memory is failed = cc

-- nothing was to be printed
pub none_on : (a : Shown) (written : Option (List ℕ)) (lines : World → List ℕ) (may : World → Type 0)
    → ((w : World) → lines w ≡ []) → PrintsOn {T = Unit {0}} a a written written (Ok tt) lines may
none_on a written lines may none = record {
  printed = [];
  appends = Appends-nil written;
  honest = λ h. h;
  at = λ h w stands.
      record { all = sym (none w); front = ([], none w); cut = λ failed. absurd failed; stays = stands };
  no_fewer = omega arith;
  device = λ failed. absurd (let e = failed in cc);
}

-- nothing was printed, since memory ran out
pub memory_on : (a : Shown) (written : Option (List ℕ)) (lines : World → List ℕ) (may : World → Type 0)
    → ((w : World) → lines w ≡ [] → may w)
    → PrintsOn {T = Unit {0}} a a written written (Err (end.PrintError why.Memory)) lines may
memory_on a written lines may none = record {
  printed = [];
  appends = Appends-nil written;
  honest = λ h. h;
  at = λ h w stands. record { all = tt; front = (lines w, refl); cut = λ failed all. none w (sym all); stays = tt };
  no_fewer = omega arith;
  device = λ failed. absurd (let e = failed in cc);
}

module _ {T : Type 0} (a b c : Shown) (x : T) (of : World → T) (read : Reads a b (Ok x) of)
    (written now : Option (List ℕ)) (result : Result (Unit {0}) CatalogEnd) where
  -- lines that go by what was read
  pub read_prints : (some lines : World → List ℕ) (some_may may : World → Type 0)
      → ((w : World) → x ≡ of w → some w ≡ lines w) → ((w : World) → a.stands w → x ≡ of w → some_may w → may w)
      → PrintsOn b c written now result some some_may → PrintsOn a c written now result lines may
  read_prints some lines some_may may same then it = record {
    printed = it.printed;
    appends = it.appends;
    honest = λ h. read.honest (it.honest h);
    at = λ h w stands.
        let was = read.at (it.honest h) w stands in
        let here = it.at h w was.stays in
        let is = same w was.answer in
        record {
          all = subst (λ l. OnOk result (it.printed ≡ l)) is here.all;
          front = (here.front.0, sym is ∙ here.front.1);
          cut = λ failed all. then w stands was.answer (here.cut failed (all ∙ sym is));
          stays = here.stays;
        };
    no_fewer = let one = read.cause.no_fewer in let two = it.no_fewer in omega (arith, one, two);
    device = λ failed. grown_before _ _ _ read.cause.no_fewer (it.device failed);
  }

module _ (a b c : Shown) (written now : Option (List ℕ)) (lines : World → List ℕ) (may : World → Type 0) where
  -- lines that were printed after turns
  pub turns_print : (result : Result (Unit {0}) CatalogEnd) → StaysOn {T = Unit {0}} a b (Ok tt)
      → PrintsOn b c written now result lines may
      → PrintsOn a c written now result lines may
  turns_print result first it = record {
    printed = it.printed;
    appends = it.appends;
    honest = λ h. first.honest (it.honest h);
    at = λ h w stands. it.at h w (first.at (it.honest h) w stands);
    no_fewer = let one = first.no_fewer in let two = it.no_fewer in omega (arith, one, two);
    device = λ failed. grown_before _ _ _ first.no_fewer (it.device failed);
  }

-- turns that ended it printed nothing
pub turns_cut : (a b : Shown) (written : Option (List ℕ)) (lines : World → List ℕ) (may : World → Type 0)
    (e : CatalogEnd) → ((w : World) → may w) → StaysOn {T = Unit {0}} a b (Err e)
    → PrintsOn {T = Unit {0}} a b written written (Err e) lines may
turns_cut a b written lines may e halts first = record {
  printed = [];
  appends = Appends-nil written;
  honest = first.honest;
  at = λ h w stands. record { all = tt; front = (lines w, refl); cut = λ failed all. halts w; stays = tt };
  no_fewer = first.no_fewer;
  device = first.device;
}

-- ---- one line after another

-- a beginning of some lines is all of them if it is so with more lines before and after it
front_all : (before front lines left rest : List ℕ) → lines ≡ front ++ left
    → before ++ front ≡ before ++ (lines ++ rest) → front ≡ lines
front_all before front lines left rest begins same =
    let here : front ≡ front ++ (left ++ rest) =
    same_rest before front (lines ++ rest) same ∙ ap (λ l. l ++ rest) begins ∙ append_assoc front left rest in
    let none : left ≡ [] = nothing_left front left rest here in
    sym (begins ∙ ap (λ l. front ++ l) none ∙ append-nil front)
  where
    same_rest : (xs ys zs : List ℕ) → xs ++ ys ≡ xs ++ zs → ys ≡ zs
    same_rest [] ys zs same = same
    same_rest (x ∷ xs) ys zs same = same_rest xs ys zs (let is = same in cc)

    nothing_left : (xs ys zs : List ℕ) → xs ≡ xs ++ (ys ++ zs) → ys ≡ []
    nothing_left [] [] zs same = refl
    nothing_left [] (y ∷ ys) zs same = cc
    nothing_left (x ∷ xs) ys zs same = nothing_left xs ys zs (let is = same in cc)

module _ {X : Type 0} (f : World → X → List ℕ) (goal : World → List ℕ) (all : World → List X) where
  module _ (a b c : Shown) (written mid now : Option (List ℕ)) (x : X) (left rest : List X)
      (begins : left ≡ x ∷ rest) (far : Streams f goal all a b written mid left) (may : World → Type 0) where
    held : (w : World) → far.printed ++ flat_map (f w) left ≡ goal w
        → far.printed ++ (f w x ++ flat_map (f w) rest) ≡ goal w
    held w is = ap (λ xs. far.printed ++ flat_map (f w) xs) (sym begins) ∙ is

    -- if the lines of the next piece were printed, it goes on; of what a crash leaves nothing is said
    pub on_next : ((y z : World) → a.leaves y z → ⊥) → PrintsOn {T = Unit {0}} b c mid now (Ok tt) (λ w. f w x) may
        → Streams f goal all a c written now rest
    on_next silent it = record {
      printed = far.printed ++ it.printed;
      appends = Appends-trans written mid now far.printed it.printed far.appends it.appends;
      holds = record {
        honest = λ h. far.holds.honest (it.honest h);
        at = λ h w stands.
            let was = far.holds.at (it.honest h) w stands in
            let here = it.at h w was.stays in
            record {
              holds = record {
                lines = append_assoc far.printed it.printed (flat_map (f w) rest)
                    ∙ ap (λ l. far.printed ++ (l ++ flat_map (f w) rest)) here.all ∙ held w was.holds.lines;
                before = was.holds.before ++ x ∷ [];
                pieces = was.holds.pieces ∙ ap (λ xs. was.holds.before ++ xs) begins
                    ∙ sym (append_assoc was.holds.before (x ∷ []) rest);
              };
              stays = here.stays;
              left = λ y z given. absurd (silent y z given);
            };
        no_fewer = let one = far.holds.no_fewer in let two = it.no_fewer in omega (arith, one, two);
      };
    }

    -- if a failure came in between, a beginning was printed
    pub on_failed : (e : CatalogEnd) (result : Result (Unit {0}) CatalogEnd) → IsErrAnd result (λ it. it ≡ e)
        → (whole_may : World → Type 0)
        → ((w : World) → a.stands w → Contains (all w) x → may w → whole_may w)
        → PrintsOn {T = Unit {0}} b c mid now (Err e) (λ w. f w x) may → PrintsOn a c written now result goal whole_may
    on_failed e (Ok u) is whole_may then it = absurd is
    on_failed e (Err other) is whole_may then it = record {
      printed = far.printed ++ it.printed;
      appends = Appends-trans written mid now far.printed it.printed far.appends it.appends;
      honest = λ h. far.holds.honest (it.honest h);
      at = λ h w stands.
          let was = far.holds.at (it.honest h) w stands in
          let here = it.at h w was.stays in
          let more = here.front.0 ++ flat_map (f w) rest in
          record {
            all = tt;
            front = (
              more,
              sym (held w was.holds.lines) ∙ ap (λ l. far.printed ++ (l ++ flat_map (f w) rest)) here.front.1
                  ∙ ap (λ l. far.printed ++ l) (append_assoc it.printed here.front.0 (flat_map (f w) rest))
                  ∙ sym (append_assoc far.printed it.printed more),
            );
            cut = λ failed whole. then w stands
                (subst (λ xs. Contains xs x) (sym (was.holds.pieces ∙ ap (λ xs. was.holds.before ++ xs) begins))
                (Contains-append_right was.holds.before (x ∷ rest) x (first_member x rest)))
                (here.cut (subst (λ k. IsCut {T = Unit {0}} (Err k)) is failed)
                (front_all far.printed it.printed (f w x) here.front.0 (flat_map (f w) rest) here.front.1
                (whole ∙ sym (held w was.holds.lines))));
            stays = tt;
          };
      no_fewer = let one = far.holds.no_fewer in let two = it.no_fewer in omega (arith, one, two);
      device = λ failed. grown_before _ _ _ far.holds.no_fewer
          (it.device (subst (λ k. IsErrOf {T = Unit {0}} (Err k) (end.PrintError why.Device)) is failed));
    }

  -- with no piece left all lines were printed
  pub on_end : (a b : Shown) (written now : Option (List ℕ)) (may : World → Type 0) (left : List X) → left ≡ []
      → Streams f goal all a b written now left → PrintsOn {T = Unit {0}} a b written now (Ok tt) goal may
  on_end a b written now may left none far = record {
    printed = far.printed;
    appends = far.appends;
    honest = far.holds.honest;
    at = λ h w stands.
        let here = far.holds.at h w stands in
        let same =
        sym (append-nil far.printed) ∙ ap (λ xs. far.printed ++ flat_map (f w) xs) (sym none) ∙ here.holds.lines in
        record {
          all = same;
          front = ([], sym same ∙ sym (append-nil far.printed));
          cut = λ failed. absurd failed;
          stays = here.stays;
        };
    no_fewer = far.holds.no_fewer;
    device = λ failed. absurd (let e = failed in cc);
  }

  -- it begins with all pieces left, where they are told
  pub on_first : (a : Shown) (written : Option (List ℕ)) (pieces : List X)
      → ((w : World) → flat_map (f w) pieces ≡ goal w) → ((w : World) → all w ≡ pieces)
      → Streams f goal all a a written written pieces
  on_first a written pieces lines whole = record {
    printed = [];
    appends = Appends-nil written;
    holds = record {
      honest = λ h. h;
      at = λ h w stands. record {
        holds = record { lines = lines w; before = []; pieces = whole w };
        stays = stands;
        left = λ y z given. given;
      };
      no_fewer = omega arith;
    };
  }

-- ---- failures of the output

-- a fault of the store is none of the output
pub never_output : (f : StoreFault) → unread_on f ≡ end.PrintError why.Output → ⊥
never_output fault.Device is = cc
never_output fault.Memory is = cc

module _ (writes writes_new : Writes) where
  -- where turns failed the output did not
  pub not_output_fails : writes.failed ≤ writes_new.failed → (result : Result (Unit {0}) CatalogEnd)
      → IsNotOutput result → FailsOn writes writes_new result
  not_output_fails no_fewer result never = record {
    no_fewer = no_fewer;
    output = λ failed. absurd ((subst (λ (r : Result (Unit {0}) CatalogEnd). IsNotOutput r) failed never) refl);
  }

  -- where the output failed it is told
  pub fails_cut : {T U : Type 0} (e : PrintError) → FailsBy {T = T} writes writes_new (Err e)
      → FailsOn {T = U} writes writes_new (Err (end.PrintError e))
  fails_cut e by = record { no_fewer = by.no_fewer; output = λ failed. by.output (same_why failed) }
    where
      same_why : {V : Type 0} → IsErrOf {T = V} (Err (end.PrintError e)) (end.PrintError why.Output) → e ≡ why.Output
      same_why failed = cc

-- a fault of the store is not told as one of the output
pub fails_fault : (writes : Writes) (f : StoreFault) → FailsOn {T = Unit {0}} writes writes (Err (unread_on f))
fails_fault writes f = record {
  no_fewer = omega arith;
  output = λ failed. absurd (told f failed);
}
  where
    told : (f : StoreFault) → IsErrOf {T = Unit {0}} (Err (unread_on f)) (end.PrintError why.Output) → ⊥
    told fault.Device failed = cc
    told fault.Memory failed = cc

-- a failure after others
pub fails_later : (first mid last : Writes) (e : CatalogEnd) (result : Result (Unit {0}) CatalogEnd)
    → IsErrAnd result (λ it. it ≡ e) → first.failed ≤ mid.failed → FailsOn {T = Unit {0}} mid last (Err e)
    → FailsOn first last result
fails_later first mid last e (Ok u) is less by = absurd is
fails_later first mid last e (Err other) is less by = record {
  no_fewer = let more = by.no_fewer in omega (arith, less, more);
  output = λ failed.
      let grew = by.output (subst (λ k. IsErrOf {T = Unit {0}} (Err k) (end.PrintError why.Output)) is failed) in
      omega (arith, less, grew);
}

-- ---- from the beginning on

-- a world is since no newcomers came what it is
since_itself : (w : World) → IsSince w w set.empty
since_itself w = record {
  shelves = λ s parent up. up;
  entries = λ q. sym (ap (λ b. cond b None (map.get w.entries q)) (set.contains-empty place_cmp q));
}

-- a read before the first turn is one of the worlds of the order
pub reads_there : {T : Type 0} (a b : Shown) (s : List ℕ) (result : Result T StoreFault) (of : World → T)
    → ((w : World) → a.stands w → IsWorld w) → Reads a b result of → Reads (there a s) (past b set.empty s) result of
reads_there a b s result of sound read = record {
  honest = read.honest;
  at = λ h w both.
      let here = read.at h w both.0 in
      record {
        answer = here.answer;
        stays = record {
          is = sound w both.0;
          shelf = both.1;
          later = w;
          stands = here.stays;
          since = since_itself w;
        };
        left = λ x y none. none;
      };
  cause = record { no_fewer = read.cause.no_fewer; device = read.cause.device };
}
