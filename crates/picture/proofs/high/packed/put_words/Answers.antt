use mathlib.Core.Path.{◌∙◌}
use Prim.Native.Nat.{◌+◌, ◌-◌, ◌<◌}
use native.Mathlib.Omega.{arith}
use borrow.Author.Rules.{rules}
use lib.IntN.{pos}
use lib.ListN.{take, drop, get_or}
use mir.Syntax.{w64}
use mir.Val.{SFits}
use mir.Facts.{to_z-of_z}
use Rattle.picture.specs.Laws.PutWords.{words_none, words_many, word_at, word_room, word_turn}
use Rattle.picture.proofs.high.packed.put_words.Goals as goal
use Rattle.picture.proofs.high.packed.put_words.Goals.{In-loop-z}

-- the word is one of the n
below : (c : In-loop-z) → c.loop-z.z-index < c.args.n
below c = let a = c.args in omega (arith, c.loop-z-test.true, words_many a.work.now a.at a.n c.requires.0)

pub loop-z-init : goal.loop-z-init
loop-z-init c = words_none c.args.work.now c.args.at c.requires.1

pub put_word-requires : goal.put_word-requires
put_word-requires c =
    let a = c.args in
    let l = c.loop-z in
    let h = below (goal.at.put_word-requires c).In-loop-z in
    let f : SFits w64 (get_or (take (a.at + a.n - a.at) (drop a.at a.work.now)) l.z-index (pos 0)) = search rules in
    rw (to_z-of_z {w = w64} f ∙ word_at a.work.now a.at a.n l.z-index h) (word_room a.work.now a.at a.n l.z-index h c.requires.0 c.requires.1 l.invariant)

pub loop-z-preserved : goal.loop-z-preserved
loop-z-preserved c =
    let a = c.args in
    let l = c.loop-z in
    let h = below (goal.at.loop-z-preserved c).In-loop-z in
    let f : SFits w64 (get_or (take (a.at + a.n - a.at) (drop a.at a.work.now)) l.z-index (pos 0)) = search rules in
    word_turn a.work.now a.at l.z-index (omega (arith, h, c.requires.0)) c.requires.1.sound l.invariant (rw (to_z-of_z {w = w64} f ∙ word_at a.work.now a.at a.n l.z-index h) at c.put_word.ensures)
