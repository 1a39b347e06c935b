-- What a reader gave from one state to a later one.
use Rattle.std.proofs.Common.{◌≡◌, ℕ, List, [], ◌++◌, Option, Some, None, refl, sym, ap, ◌∙◌, subst, append_assoc}
use Rattle.std.proofs.Common.{append-nil}
use Rattle.std.proofs.lemmas.List.{append_cancel_left}
use Rattle.std.specs.Io.KnownBytes.{Consumes, IsAtEnd}
use Rattle.std.proofs.KnownBytes.{Consumes-nil, Consumes-trans}
use Rattle.histories.specs.Account.{Account, Gives, MayFollow, IsSound, IsKnownInput, left_of}

pub Gives-none : (a : Account) → Gives a a []
Gives-none a = record {
  heard = sym (append-nil a.heard);
  left = Consumes-nil a.left;
  over = λ over. (over, refl);
  sound = λ sound. sound;
}

pub Gives-trans : (a b c : Account) (bs cs : List ℕ) → Gives a b bs → Gives b c cs → Gives a c (bs ++ cs)
Gives-trans a b c bs cs p q = record {
  heard = q.heard ∙ ap (λ l. l ++ cs) p.heard ∙ append_assoc a.heard bs cs;
  left = Consumes-trans a.left b.left c.left bs cs p.left q.left;
  over = λ over.
      let first = p.over over in
      let second = q.over first.0 in
      (second.0, ap (λ l. l ++ cs) first.1 ∙ second.1);
  sound = λ sound. q.sound (p.sound sound);
}

-- nothing came after
pub Gives-kept : (a b c : Account) (bs : List ℕ) → Gives a b bs → Gives b c [] → Gives a c bs
Gives-kept a b c bs p q = subst (Gives a c) (append-nil bs) (Gives-trans a b c bs [] p q)

-- what it gave is one list
pub Gives-one : (a b : Account) (bs cs : List ℕ) → Gives a b bs → Gives a b cs → bs ≡ cs
Gives-one a b bs cs p q = append_cancel_left a.heard bs cs (sym p.heard ∙ q.heard)

-- ---- readers whose bytes are known

follows : (left : Option (List ℕ)) → IsAtEnd left → left_of left ≡ []
follows None end = refl
follows (Some bytes) end = end

-- what a reader still has, if that is known, may follow what it gave
pub left_follows : (a : Account) → IsSound a → MayFollow a (left_of a.left)
left_follows a sound over = follows a.left (sound over)

tells_after : (old new : Option (List ℕ)) (bytes : List ℕ) → Consumes old new bytes
    → IsKnownInput old (bytes ++ left_of new)
tells_after None new bytes x = tt
tells_after (Some xs) None bytes x = absurd x
tells_after (Some xs) (Some ys) bytes x = sym x

-- what a reader had, if that is known, is what it gave and what it still has
pub had : (old new : Account) (bytes : List ℕ) → Gives old new bytes → IsKnownInput old.left (bytes ++ left_of new.left)
had old new bytes gives = tells_after old.left new.left bytes gives.left
