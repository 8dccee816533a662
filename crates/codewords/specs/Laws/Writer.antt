-- Laws of the bit writer: a write by the bits that it laid, nothing, one write after another, the bits of one number,
-- and what is left of the room.
use Rattle.std.specs.Prelude.{◌≡◌, List, [], ◌++◌, ℕ, ◌+◌, ◌-◌, ◌*◌, ◌/◌, ◌%◌, ◌^◌, ◌≤◌, ◌<◌, length, take, drop}
use Rattle.std.proofs.Common.{sym, ap, ◌∙◌, append_assoc, append-nil, mod-lt, arith, length-append, take-append-drop, length-take-le, take_at, drop_at, pow_pos, pow-add}
use Rattle.std.proofs.Math.Arith.{digits_lt}
use Rattle.laws.specs.Code.Laid.{laid, Lays}
use Rattle.laws.specs.Laws.Laid.{laid_nil, laid_then, length-laid}
use Rattle.codewords.specs.declared.writer.BitWriter.{BitWriter}
use Rattle.codewords.specs.Bit.{Bits, lit}
use Rattle.codewords.specs.Laws.Bit.{length-lit, lit-none, lit_split, lit-mod, lit_join}
use Rattle.codewords.specs.Bytes.{to_bytes}
use Rattle.codewords.specs.Laws.Byte.{Full, pack-none, pack-part, length-to_bytes, to_bytes-append}
use Rattle.codewords.specs.Code.Writer.{pending_of, Sound, Room, Wrote, Flushes}

-- ---- a writer at the start of a byte, with no bit pending
abbrev pub start_at : ℕ → BitWriter
start_at i = record { at = i; pending = 0; pending_bits = 0 }

pub start_sound : (i : ℕ) → Sound (start_at i)
start_sound i = record { part = omega arith; small = omega arith }

-- ---- a write by the bits s that it laid
record Laid (o : List ℕ) (w : BitWriter) (bs : Bits) (o' : List ℕ) (w' : BitWriter) (s : Bits) : Type 0 where
  next : w'.at * 8 ≡ w.at * 8 + length s
  parts : pending_of w ++ bs ≡ s ++ pending_of w'
  is : o' ≡ laid o w.at (to_bytes s)

length_pending : (w : BitWriter) → length (pending_of w) ≡ w.pending_bits
length_pending w = length-lit w.pending_bits w.pending

wrote_by : {o o' : List ℕ} {w w' : BitWriter} {bs s : Bits} → Sound w' → Laid o w bs o' w' s → Wrote o w bs o' w'
wrote_by {o} {o'} {w} {w'} {bs} {s} g l =
    let d = 8 * (w'.at - w.at) in
    let e : length s ≡ d = omega (arith, l.next) in
    record {
      on = omega (arith, l.next);
      out = l.is ∙ ap (λ (t : Bits). laid o w.at (to_bytes t)) (sym (ap (take d) l.parts ∙ take_at s (pending_of w') d e));
      rest = sym (ap (drop d) l.parts ∙ drop_at s (pending_of w') d e);
      place =
          omega (arith, l.next, ap length l.parts, length-append (pending_of w) bs, length-append s (pending_of w'), length_pending w, length_pending w');
      sound = g;
      size = ap length l.is ∙ length-laid o w.at (to_bytes s);
    }

-- the bits that a write laid
abbrev laid_of : BitWriter → Bits → BitWriter → Bits
laid_of w bs w' = take (8 * (w'.at - w.at)) (pending_of w ++ bs)

laid_by : {o o' : List ℕ} {w w' : BitWriter} {bs : Bits} → Wrote o w bs o' w' → Laid o w bs o' w' (laid_of w bs w')
laid_by {o} {o'} {w} {w'} {bs} p =
    let d = 8 * (w'.at - w.at) in
    let x = pending_of w ++ bs in
    let n : length (take d x) ≡ d = length-take-le d x (omega (arith, p.place, length-append (pending_of w) bs, length_pending w)) in
    record {
      next = omega (arith, p.on, n);
      parts = sym (ap (λ (t : Bits). take d x ++ t) p.rest ∙ take-append-drop d x);
      is = p.out;
    }

-- the bits that were laid are whole bytes
full_laid : {o o' : List ℕ} {w w' : BitWriter} {bs s : Bits} → Laid o w bs o' w' s → Full s
full_laid l = record { full = omega (arith, l.next) }

-- no byte laid changes nothing
none-laid : (o : List ℕ) (at : ℕ) → o ≡ laid o at (to_bytes [])
none-laid o at = sym (ap (laid o at) (pack-none 7 0) ∙ laid_nil o at)

pub wrote_none : {o : List ℕ} {w : BitWriter} {n : ℕ} → Room o w n → Wrote o w [] o w
wrote_none {o} {w} r =
    wrote_by {s = []} r.sound (record { next = omega arith; parts = append-nil (pending_of w); is = none-laid o w.at })

-- one write after another
pub wrote_then : {o o' o'' : List ℕ} {w w' w'' : BitWriter} {bs cs : Bits} → Sound w → Wrote o w bs o' w' → Wrote o' w' cs o'' w'' → Wrote o w (bs ++ cs) o'' w''
wrote_then {o} {o'} {o''} {w} {w'} {w''} {bs} {cs} _ p q =
    let s = laid_of w bs w' in
    let t = laid_of w' cs w'' in
    let l = laid_by p in
    let m = laid_by q in
    wrote_by {s = s ++ t} q.sound
    (record {
      next = omega (arith, l.next, m.next, length-append s t);
      parts =
          sym (append_assoc (pending_of w) bs cs) ∙ ap (λ (x : Bits). x ++ cs) l.parts ∙ append_assoc s (pending_of w') cs
          ∙ ap (λ (x : Bits). s ++ x) m.parts ∙ sym (append_assoc s t (pending_of w''));
      is =
          m.is ∙ ap (λ (r : List ℕ). laid r w'.at (to_bytes t)) l.is
          ∙ laid_then o w.at w'.at (to_bytes s) (to_bytes t) (omega (arith, l.next, length-to_bytes s))
          ∙ ap (laid o w.at) (sym (to_bytes-append s t (full_laid l)));
    })

-- what is left of the room
pub room_after : {o o' : List ℕ} {w w' : BitWriter} {bs : Bits} {n : ℕ} (k : ℕ) → Room o w n → Wrote o w bs o' w' → length bs + k ≤ n → Room o' w' k
room_after k r p h = record { sound = p.sound; room = omega (arith, r.room, p.place, p.size) }

-- ---- the bits of one number
-- the bits pending and the n low bits of v
abbrev pub joined : BitWriter → ℕ → ℕ → ℕ
joined w n v = w.pending * 2 ^ n + v % 2 ^ n

pub joined-lt : (w : BitWriter) (n v : ℕ) → Sound w → joined w n v < 2 ^ (w.pending_bits + n)
joined-lt w n v s = rw (pow-add 2 w.pending_bits n) (digits_lt s.small (mod-lt v (pow_pos n)))

-- all of them are pending
pub wrote_few : (o : List ℕ) (w : BitWriter) (n v : ℕ) → Sound w → w.pending_bits + n < 32
    → Wrote o w (lit n v) o (record { at = w.at; pending = joined w n v; pending_bits = w.pending_bits + n })
wrote_few o w n v s h =
    wrote_by {s = []} (record { part = h; small = joined-lt w n v s })
    (record { next = omega arith; parts = sym (lit_join w.pending_bits w.pending n v); is = none-laid o w.at })

-- of the m low bits of x the k high ones are laid, and the others are pending
pub wrote_bits : {o o' : List ℕ} {w : BitWriter} {bs : Bits} {at : ℕ} (m k j x : ℕ) → pending_of w ++ bs ≡ lit m x → m ≡ k + j → j < 32
    → at * 8 ≡ w.at * 8 + k → o' ≡ laid o w.at (to_bytes (lit k (x / 2 ^ j))) → Wrote o w bs o' (record { at = at; pending = x % 2 ^ j; pending_bits = j })
wrote_bits m k j x e f h a l =
    wrote_by (record { part = h; small = mod-lt x (pow_pos j) })
    (record {
      next = omega (arith, length-lit k (x / 2 ^ j));
      parts = e ∙ ap (λ (i : ℕ). lit i x) f ∙ lit_split k j x ∙ ap (λ (t : Bits). lit k (x / 2 ^ j) ++ t) (sym (lit-mod j x));
      is = l;
    })

-- ---- from the start of a byte, and with less than a byte pending at the end, the bytes laid are those of the bits
pub bytes_laid : {o o' : List ℕ} {w w' : BitWriter} {bs : Bits} → Sound w → Wrote o w bs o' w' → w.pending_bits ≡ 0 → w'.pending_bits < 8
    → o' ≡ laid o w.at (to_bytes bs)
bytes_laid {o} {o'} {w} {w'} {bs} _ p e h =
    let s = laid_of w bs w' in
    let t = pending_of w' in
    let l = laid_by p in
    let none : pending_of w ≡ [] = ap (λ (i : ℕ). lit i w.pending) e ∙ lit-none w.pending in
    let all : bs ≡ s ++ t = ap (λ (x : Bits). x ++ bs) (sym none) ∙ l.parts in
    let few : to_bytes t ≡ [] = pack-part 7 0 t (omega (arith, length_pending w')) in
    l.is
    ∙ ap (laid o w.at) (sym (ap to_bytes all ∙ to_bytes-append s t (full_laid l) ∙ ap (λ (b : List ℕ). to_bytes s ++ b) few ∙ append-nil (to_bytes s)))

-- from whole bytes on, what was put lies in the output once it is flushed
pub flush_lays : {o o' o'' : List ℕ} {w w' w'' : BitWriter} {bs : Bits} → Sound w → Wrote o w bs o' w' → Flushes o' w' o'' w'' → w.pending_bits ≡ 0
    → Lays o w.at (to_bytes bs) o'' w''.at
flush_lays {bs = bs} s p f e =
    let all = rw (append-nil bs) at (wrote_then s p f.wrote) in
    record { is = bytes_laid s all e f.part; next = omega (arith, all.place, f.part, length-to_bytes bs); size = all.size }
