-- A run with the requests of other shelves, and one without.
use Rattle.std.proofs.Common.{◌≡◌, ℕ, List, [], ◌∷◌, Bool, true, false, refl, ◌∙◌, sym, ap, subst, Option, Some, None}
use Rattle.std.specs.Prelude.{suc}
use Rattle.std.specs.FinMap as map
use Rattle.std.proofs.lemmas.Bool.{true≢false}
use Rattle.world.specs.declared.entry.Holder.{Holder}
use Rattle.machine.specs.declared.request.Event.{Event}
use Rattle.machine.specs.declared.reply.Reply.{Reply}
use Rattle.machine.specs.declared.reply.Answer.{Answer}
use Rattle.machine.specs.declared.reply.Answer.TheVariants.{Replied, Failed}
use Rattle.world.specs.World.{World, IsWorld, chain}
use Rattle.machine.specs.Machine.{reply_to, after, after_all, replies, Run, answered, replies_of}
use Rattle.machine.specs.Isolation.{is_among, is_near, is_near_key, asking_key, is_remaining, remaining, marked, purge}
use Rattle.machine.specs.Isolation.{IsAnsweredIfItRemains, RemainingAnswered, AllReplied}
use Rattle.machine.specs.Isolation.{Agree, IsIsolated, PurgeIsTheSame, PurgedRunsAgree, FaultyRunsAgree, MarksAreAsLong}
use Rattle.machine.specs.Isolation.{MarksAreAtTheirMoment, OnlyOthersGo}
use Rattle.machine.proofs.Sound.{sound, world_through}
use Rattle.machine.proofs.Chains.{Later, later_self, later_through, Reaches, reaches}
use Rattle.machine.proofs.Apart.{agree_self, agree_back, event_alike, event_far, remaining_alike}

-- where a run ends is later than where it begins
pub ends_later : (w new : World) (es : List Event) (answers : List Answer) → IsWorld w → Run w es answers new
    → Later w new
ends_later w new es answers is run =
    later_through w new new es answers run (later_self new (world_through w new es answers is run))

-- ---- against the machine over the purged list

-- the replies are those of the machine over the purged list, and the worlds after both agree
abbrev RepliesAlike : List Bool → List Event → List Reply → World → World → List ℕ → Type 0
RepliesAlike marks es told x new s = (marked marks told ≡ replies x (marked marks es))
    × Agree new (after_all x (marked marks es)) (chain new s)

-- a run and the machine over the purged list, from worlds that agree, give the remaining events equal replies and lead
-- to worlds that
-- agree, for what s sees at the end
replies_alike : (w x new : World) (s : List ℕ) (es : List Event) (answers : List Answer) → IsWorld w
    → Agree w x (chain new s) → Run w es answers new
    → RepliesAlike (remaining w (chain new s) (answered es answers)) (answered es answers) (replies_of answers) x new s
replies_alike w x new s [] [] is agree run = (refl, subst (λ y. Agree y x (chain new s)) (sym run) agree)
replies_alike w x new s [] (a ∷ answers) is agree run = absurd run
replies_alike w x new s (e ∷ es) [] is agree run = absurd run
replies_alike w x new s (e ∷ es) (Failed fault ∷ answers) is agree run = replies_alike w x new s es answers is agree run
replies_alike w x new s (e ∷ es) (Replied r ∷ answers) is agree run =
    let ss : List (List ℕ) = chain new s in
    let marks : List Bool = remaining (after w e) ss (answered es answers) in
    let told : List Reply = replies_of answers in
    let rest : List Event = answered es answers in
    elim (is_remaining w ss e) as
    (λ b. is_remaining w ss e ≡ b → RepliesAlike (b ∷ marks) (e ∷ rest) (r ∷ told) x new s) [
      | true ↦ λ near.
          let alike = event_alike w x ss e near is
          (reaches w new s (ends_later w new (e ∷ es) (Replied r ∷ answers) is run)) agree in
          let more = replies_alike (after w e) (after x e) new s es answers (sound w e is) alike.worlds run.1 in
          (ap (λ a. a ∷ marked marks told) (run.0 ∙ alike.reply) ∙ ap (λ rs. reply_to x e ∷ rs) more.0, more.1)
      | false ↦ λ far. replies_alike (after w e) x new s es answers (sound w e is) (event_far w x ss e far agree) run.1
    ] refl

pub isolated : IsIsolated
isolated old old_too new s events answers is agree run = replies_alike old old_too new s events answers is agree run

-- ---- against another run

pub faulty_runs_agree : FaultyRunsAgree
faulty_runs_agree old one two s first second told heard is run again chains same =
    (isolated old old one s first told is (agree_self old (chain one s)) run).0
    ∙ ap (replies old) same
    ∙ sym (isolated old old two s second heard is (agree_self old (chain two s)) again).0

-- the world of the run, the one that all events would have led to, and that of the purged run
record Three (w x y : World) (ss : List (List ℕ)) : Type 0 where
  all : Agree w x ss
  purged : Agree w y ss

-- a remaining event that was answered moves all three
three_remaining : (w x y : World) (ss : List (List ℕ)) (e : Event) (r : Reply) → IsWorld w → Reaches w ss
    → Three w x y ss → is_remaining w ss e ≡ true → r ≡ reply_to w e
    → (r ≡ reply_to y e) × Three (after w e) (after x e) (after y e) ss
three_remaining w x y ss e r is all three near is_reply =
    let to_all = event_alike w x ss e near is all three.all in
    let to_purged = event_alike w y ss e near is all three.purged in
    (is_reply ∙ to_purged.reply, record { all = to_all.worlds; purged = to_purged.worlds })

-- another event moves the second, and the first where it was answered
three_failed : (w x y : World) (ss : List (List ℕ)) (e : Event) → Three w x y ss → is_remaining x ss e ≡ false
    → Three w (after x e) y ss
three_failed w x y ss e three far =
    record {
      all = agree_back (after x e) w ss (event_far x w ss e far (agree_back w x ss three.all));
      purged =
          three.purged;
    }

three_far : (w x y : World) (ss : List (List ℕ)) (e : Event) → Three w x y ss → is_remaining x ss e ≡ false
    → Three (after w e) (after x e) y ss
three_far w x y ss e three far =
    let here : is_remaining w ss e ≡ false = remaining_alike w x ss e three.all ∙ far in
    let moved = three_failed w x y ss e three far in
    record { all = event_far w (after x e) ss e here moved.all; purged = event_far w y ss e here moved.purged }

first_of : (y other : World) (e : Event) (es : List Event) (purged : List Answer) → Run y (e ∷ es) purged other
    → AllReplied purged
    → (r : Reply) × (rest : List Answer) × (purged ≡ Replied r ∷ rest) × (r ≡ reply_to y e)
    × Run (after y e) es rest other × AllReplied rest
first_of y other e es [] run all = absurd run
first_of y other e es (Replied r ∷ rest) run all = (r, rest, refl, run.0, run.1, all.1)
first_of y other e es (Failed fault ∷ rest) run all = absurd all.0

-- the remaining events are answered alike, and the worlds after both runs agree
abbrev PurgedTold : List Bool → List Answer → List Answer → World → World → List (List ℕ) → Type 0
PurgedTold marks answers purged new other ss = (marked marks answers ≡ purged) × Agree new other ss

-- a run from w, with the events remaining by x, and a run from y over the purged list answer the remaining events
-- alike and end in worlds
-- that agree, if w agrees with both and no remaining event met a fault
purged_told : (w x y new other later : World) (s : List ℕ) (es : List Event) (answers purged : List Answer) → IsWorld w
    → Later new later → Three w x y (chain later s)
    → Run w es answers new → RemainingAnswered x (chain later s) es answers
    → Run y (marked (remaining x (chain later s) es) es) purged other → AllReplied purged
    → PurgedTold (remaining x (chain later s) es) answers purged new other (chain later s)
purged_told w x y new other later s [] [] [] is then three run faultless again all = (
  refl,
  subst (λ v. Agree v other (chain later s)) (sym run)
      (subst (λ v. Agree w v (chain later s)) (sym again) three.purged),
)
purged_told w x y new other later s [] [] (a ∷ purged) is then three run faultless again all = absurd again
purged_told w x y new other later s [] (a ∷ answers) purged is then three run faultless again all = absurd run
purged_told w x y new other later s (e ∷ es) [] purged is then three run faultless again all = absurd run
purged_told w x y new other later s (e ∷ es) (Failed fault ∷ answers) purged is then three run faultless again all =
    let ss : List (List ℕ) = chain later s in
    let marks : List Bool = remaining (after x e) ss es in
    elim (is_remaining x ss e)
    as (λ b. is_remaining x ss e ≡ b → IsAnsweredIfItRemains b (Failed fault)
    → Run y (marked (b ∷ marks) (e ∷ es)) purged other
    → PurgedTold (b ∷ marks) (Failed fault ∷ answers) purged new other ss) [
      | true ↦ λ near never _. absurd never
      | false ↦ λ far _ rest. purged_told w (after x e) y new other later s es answers purged is then
          (three_failed w x y ss e three far) run faultless.1 rest all
    ] refl faultless.0 again
purged_told w x y new other later s (e ∷ es) (Replied r ∷ answers) purged is then three run faultless again all =
    let ss : List (List ℕ) = chain later s in
    let marks : List Bool = remaining (after x e) ss es in
    elim (is_remaining x ss e) as
    (λ b. is_remaining x ss e ≡ b → Run y (marked (b ∷ marks) (e ∷ es)) purged other
    → PurgedTold (b ∷ marks) (Replied r ∷ answers) purged new other ss) [
      | true ↦ λ near rest.
          let first = first_of y other e (marked marks es) purged rest all in
          let sight = reaches w later s (later_through w new later (e ∷ es) (Replied r ∷ answers) run then) in
          let step = three_remaining w x y ss e r is sight three (remaining_alike w x ss e three.all ∙ near) run.0 in
          let more = purged_told (after w e) (after x e) (after y e) new other later s es answers first.1 (sound w e is)
          then step.1 run.1 faultless.1 first.4 first.5 in (
            ap (λ a. Replied a ∷ marked marks answers) (step.0 ∙ sym first.3)
                ∙ ap (λ told. Replied first.0 ∷ told) more.0 ∙ sym first.2,
            more.1,
          )
      | false ↦ λ far rest.
          purged_told (after w e) (after x e) y new other later s es answers purged (sound w e is) then
          (three_far w x y ss e three far) run.1 faultless.1 rest all
    ] refl again

-- for what s sees in a world that is later than the end of the run
pub purged_runs_agree_so_far : (old old_too new new_too later : World) (s : List ℕ) (events : List Event)
    (answers purged : List Answer) → IsWorld old → Later new later
    → Agree old old_too (chain later s) → Run old events answers new
    → RemainingAnswered old (chain later s) events answers
    → Run old_too (purge old (chain later s) events) purged new_too → AllReplied purged
    → (marked (remaining old (chain later s) events) answers ≡ purged) × Agree new new_too (chain later s)
purged_runs_agree_so_far old old_too new new_too later s events answers purged is then agree run faultless again all =
    purged_told old old old_too new new_too later s events answers purged is then
    (record { all = agree_self old (chain later s); purged = agree }) run faultless again all

pub purged_runs_agree : PurgedRunsAgree
purged_runs_agree old old_too new new_too s events answers purged is agree run faultless again all =
    purged_runs_agree_so_far old old_too new new_too new s events answers purged is
    (later_self new (world_through old new events answers is run)) agree run faultless again all

-- ---- the purge with the faults and without

-- if no remaining event met a fault, purging all events and purging those that were answered gives one list, from
-- worlds that agree
purged_alike : (w x new : World) (s : List ℕ) (es : List Event) (answers : List Answer) → IsWorld w
    → Agree w x (chain new s) → Run w es answers new → RemainingAnswered x (chain new s) es answers
    → marked (remaining x (chain new s) es) es
    ≡ marked (remaining w (chain new s) (answered es answers)) (answered es answers)
purged_alike w x new s [] [] is agree run faultless = refl
purged_alike w x new s [] (a ∷ answers) is agree run faultless = absurd run
purged_alike w x new s (e ∷ es) [] is agree run faultless = absurd run
purged_alike w x new s (e ∷ es) (Failed fault ∷ answers) is agree run faultless =
    let ss : List (List ℕ) = chain new s in
    elim (is_remaining x ss e) as
    (λ b. is_remaining x ss e ≡ b → IsAnsweredIfItRemains b (Failed fault)
    → marked (b ∷ remaining (after x e) ss es) (e ∷ es) ≡ purge w ss (answered es answers)) [
      | true ↦ λ near never. absurd never
      | false ↦ λ far _. purged_alike w (after x e) new s es answers is
          (agree_back (after x e) w ss (event_far x w ss e far (agree_back w x ss agree))) run faultless.1
    ] refl faultless.0
purged_alike w x new s (e ∷ es) (Replied r ∷ answers) is agree run faultless =
    let ss : List (List ℕ) = chain new s in
    let rest : List Event = answered es answers in
    subst (λ m. marked (remaining x ss (e ∷ es)) (e ∷ es) ≡ marked (m ∷ remaining (after w e) ss rest) (e ∷ rest))
    (sym (remaining_alike w x ss e agree))
    (elim (is_remaining x ss e) as
    (λ b. is_remaining x ss e ≡ b
    → marked (b ∷ remaining (after x e) ss es) (e ∷ es) ≡ marked (b ∷ remaining (after w e) ss rest) (e ∷ rest)) [
      | true ↦ λ near.
          let alike = event_alike w x ss e (remaining_alike w x ss e agree ∙ near) is
          (reaches w new s (ends_later w new (e ∷ es) (Replied r ∷ answers) is run)) agree in
          ap (λ more. e ∷ more) (purged_alike (after w e) (after x e) new s es answers (sound w e is) alike.worlds run.1
          faultless.1)
      | false ↦ λ far.
          let moved = agree_back (after x e) w ss (event_far x w ss e far (agree_back w x ss agree)) in
          purged_alike (after w e) (after x e) new s es answers (sound w e is)
          (event_far w (after x e) ss e (remaining_alike w x ss e agree ∙ far) moved) run.1 faultless.1
    ] refl)

pub purge_is_the_same : PurgeIsTheSame
purge_is_the_same old new s events answers is run faultless =
    purged_alike old old new s events answers is (agree_self old (chain new s)) run faultless

-- ---- what is purged

pub marks_are_as_long : MarksAreAsLong
marks_are_as_long w ss [] = refl
marks_are_as_long w ss (e ∷ es) = ap suc (marks_are_as_long (after w e) ss es)

pub marks_are_at_their_moment : MarksAreAtTheirMoment
marks_are_at_their_moment w ss [] e rest = refl
marks_are_at_their_moment w ss (b ∷ before) e rest =
    ap (λ marks. is_remaining w ss b ∷ marks) (marks_are_at_their_moment (after w b) ss before e rest)

far_holder : (ss : List (List ℕ)) (o : Option Holder) → is_near ss o ≡ false
    → (h : Holder) × (o ≡ Some h) × (is_among ss h.shelf ≡ false)
far_holder ss None far = absurd (true≢false far)
far_holder ss (Some h) far = (h, refl, far)

far_key : (w : World) (ss : List (List ℕ)) (o : Option (List ℕ)) → is_near_key w ss o ≡ false
    → (k : List ℕ) × (h : Holder) × (o ≡ Some k) × (map.get w.keys k ≡ Some h) × (is_among ss h.shelf ≡ false)
far_key w ss None far = absurd (true≢false far)
far_key w ss (Some k) far = let h = far_holder ss (map.get w.keys k) far in (k, h.0, refl, h.1, h.2)

pub only_others_go : OnlyOthersGo
only_others_go w ss e = (
  (λ far. far_key w ss (asking_key e) far),
  (λ others. ap (is_near_key w ss) others.2 ∙ ap (is_near ss) others.3 ∙ others.4),
)
