-- The header's parts, what they are by case, and how they make up the header.
use Rattle.std.specs.Prelude.{◌≡◌, refl, Bool, true, false, Some, None, not, ◌||◌, ◌⊎◌, List, [], ◌∷◌, ◌++◌, ℕ, zero, suc, ◌+◌, ◌*◌, ◌-◌, ◌/◌, ◌^◌, ◌%◌, ◌≤◌, ◌<◌, T, eqb, length, take, drop, get_or}
use Rattle.std.proofs.Common.{sym, ap, ap₂, ◌∙◌, subst, ⊎_elim, append_assoc, append-nil, add-one, arith, le-leb, length-append, take-suc}
use Rattle.std.proofs.Math.Option.{Option, none, some}
use Rattle.std.proofs.lemmas.Bool.{lt-leb}
use Rattle.std.proofs.lemmas.List.{length-replicate}
use Rattle.laws.specs.Laws.Laid.{laid_is}
use Rattle.codewords.specs.Bit.{Bits, lit, zero_bits}
use Rattle.codewords.specs.Laws.Bit.{length-lit}
use Rattle.codewords.specs.Bytes.{to_bytes, padding}
use Rattle.codewords.specs.Laws.Byte.{length-to_bytes}
use Rattle.codewords.specs.Code.Writer.{Room, Wrote, Aligns}
use Rattle.codewords.specs.Laws.Writer.{start_at, start_sound, wrote_then, room_after, bytes_laid}
use Rattle.codewords.specs.declared.writer.BitWriter.{BitWriter}
use Rattle.codewords.specs.CodeWord.{code_u}
use Rattle.codewords.specs.Laws.Code.{length-code_u, leading_log2}
use Rattle.unit.specs.declared.Settings.{Settings}
use Rattle.unit.specs.declared.PictureKind.{PictureKind}
use Rattle.unit.specs.Parameters.{SliceParameters, flagged, extended_bits, slice_parameter_bits, codes_u, matrix_bits, parameter_bits, parameter_bytes, Parameters, fill}
use Rattle.unit.specs.Matrix.{carried_matrix}
use Rattle.unit.specs.LowDelay.{numerator}
use Rattle.unit.specs.Unit.{version_by, major_version, parameters_by, target_of, numerator_of, head_bits}
use Rattle.picture.specs.declared.front.matrix.Carried.{Carried}
use Rattle.picture.specs.Code.Matrix.{lent_in, carried_in, InPlaces, Carries}
use Rattle.picture.specs.Code.Head.{extension_of, shape_bits, info_of, numerator_after}

-- ---- the major version, by its three flags
version_three : (a b c : Bool) (k : PictureKind) → (a ≡ true) ⊎ ((b ≡ true) ⊎ (c ≡ true)) → 3 ≡ version_by (a || (b || c)) k
version_three true b c k e = refl
version_three false true c k e = refl
version_three false false true k e = refl
version_three false false false k e = absurd (⊎_elim no (⊎_elim no no) e)
  where
    no : false ≡ true → T false
    no p = subst T (sym p) tt

version_plain : (a b c : Bool) (k k' : PictureKind) → a ≡ false → b ≡ false → c ≡ false → k ≡ k' → version_by false k' ≡ version_by (a || (b || c)) k
version_plain a b c k k' p q r e = rw (p, q, r, e)

pub major_three : (s : Settings)
    → (s.extended ≡ true) ⊎ ((not (eqb s.wavelet_index s.wavelet_index_ho) ≡ true) ⊎ (not (eqb s.dwt_depth_ho 0) ≡ true))
    → 3 ≡ major_version s
unfolding major_version
major_three s e = version_three s.extended (not (eqb s.wavelet_index s.wavelet_index_ho)) (not (eqb s.dwt_depth_ho 0)) s.kind e

pub major_plain : (s : Settings) (k : PictureKind) → s.extended ≡ false → not (eqb s.wavelet_index s.wavelet_index_ho) ≡ false
    → not (eqb s.dwt_depth_ho 0) ≡ false → s.kind ≡ k → version_by false k ≡ major_version s
unfolding major_version
major_plain s k p q r e =
    version_plain s.extended (not (eqb s.wavelet_index s.wavelet_index_ho)) (not (eqb s.dwt_depth_ho 0)) s.kind k p q r e

-- ---- code words
pub code_u_short : (v : ℕ) → v < 2 ^ 32 → length (code_u v) ≤ 65
code_u_short v h = omega (arith, length-code_u v, leading_log2 33 (v + 1) (omega arith) (omega arith))

pub codes_u-none : codes_u [] ≡ []
unfolding codes_u
codes_u-none = refl

codes_u-more : (vs : List ℕ) (v : ℕ) → codes_u (vs ++ (v ∷ [])) ≡ codes_u vs ++ code_u v
unfolding codes_u
codes_u-more [] v = append-nil (code_u v)
codes_u-more (x ∷ xs) v = ap (λ (r : Bits). code_u x ++ r) (codes_u-more xs v) ∙ sym (append_assoc (code_u x) (codes_u xs) (code_u v))

-- one value more
pub codes_u-take : (vs : List ℕ) (i d : ℕ) → i < length vs → codes_u (take (i + 1) vs) ≡ codes_u (take i vs) ++ code_u (get_or vs i d)
codes_u-take vs i d h = ap (λ (k : ℕ). codes_u (take k vs)) (add-one i) ∙ ap codes_u (take-suc vs i d h) ∙ codes_u-more (take i vs) (get_or vs i d)

-- the code words of the first i values and the next one are no longer than those of all
pub codes_u-part : (vs : List ℕ) (i d : ℕ) → i < length vs → length (codes_u (take i vs)) + length (code_u (get_or vs i d)) ≤ length (codes_u vs)
unfolding codes_u
codes_u-part [] i d h = absurd (omega arith)
codes_u-part (v ∷ vs) zero d h = rw (length-append (code_u v) (codes_u vs)) (omega arith)
codes_u-part (v ∷ vs) (suc i) d h =
    rw (length-append (code_u v) (codes_u vs), length-append (code_u v) (codes_u (take i vs))) (omega (arith, codes_u-part vs i d (omega arith)))

-- the same of the first n of them
pub codes_u-part_to : (vs : List ℕ) (n i d : ℕ) → i < n → n ≤ length vs → length (codes_u (take i vs)) + length (code_u (get_or vs i d)) ≤ length (codes_u (take n vs))
unfolding codes_u
codes_u-part_to vs zero i d h l = absurd (omega arith)
codes_u-part_to [] (suc n) i d h l = absurd (omega arith)
codes_u-part_to (v ∷ vs) (suc n) zero d h l = rw (length-append (code_u v) (codes_u (take n vs))) (omega arith)
codes_u-part_to (v ∷ vs) (suc n) (suc i) d h l =
    rw (length-append (code_u v) (codes_u (take n vs)), length-append (code_u v) (codes_u (take i vs))) (omega (arith, codes_u-part_to vs n i d (omega arith) (omega arith)))

-- ---- a flag and its number
pub flagged_on : (f : Bool) (v : ℕ) → f ≡ true → flagged f v ≡ f ∷ code_u v
flagged_on f v e = rw e

pub flagged_off : (f : Bool) (v : ℕ) → f ≡ false → flagged f v ≡ f ∷ []
flagged_off f v e = rw e

pub flagged-pos : (f : Bool) (v : ℕ) → 1 ≤ length (flagged f v)
flagged-pos true v = omega arith
flagged-pos false v = omega arith

-- ---- the extended parameters
pub extension_none : (s : Settings) → major_version s < 3 → extension_of s ≡ []
unfolding extension_of
extension_none s h = rw (lt-leb 3 (major_version s) h)

pub extension_some : (s : Settings) → 3 ≤ major_version s
    → extension_of s
    ≡ flagged (not (eqb s.wavelet_index_ho s.wavelet_index)) s.wavelet_index_ho ++ flagged (not (eqb s.dwt_depth_ho 0)) s.dwt_depth_ho
unfolding extension_of
extension_some s h = rw (le-leb 3 (major_version s) h)

-- ---- what is carried of the matrix
pub carried_some : (c : Carried) (n : ℕ) → c.carried ≡ Some n → matrix_bits (carried_in c) ≡ true ∷ codes_u (take n c.values)
unfolding carried_in
carried_some c n e = rw e

pub carried_none : (c : Carried) → c.carried ≡ None → matrix_bits (carried_in c) ≡ false ∷ []
unfolding carried_in
carried_none c e = rw e

pub carried_is : {s : Settings} {c : Carried} → Carries s c → carried_in c ≡ carried_matrix s (lent_in c)
unfolding carried_in carried_matrix
carried_is h = rw (← h.carried)

pub carries_places : {s : Settings} {c : Carried} → Carries s c → InPlaces c
carries_places h = h.few

pub matrix-pos : (c : Option (List ℕ)) → 1 ≤ length (matrix_bits c)
matrix-pos none = omega arith
matrix-pos (some vs) = omega arith

-- ---- the transform parameters
regroup : (a b e x y r : Bits) → ((a ++ b) ++ (e ++ (x ++ y))) ++ r ≡ a ++ (b ++ (e ++ (x ++ (y ++ r))))
regroup a b e x y r =
    append_assoc (a ++ b) (e ++ (x ++ y)) r ∙ append_assoc a b ((e ++ (x ++ y)) ++ r)
    ∙ ap (λ (t : Bits). a ++ (b ++ t)) (append_assoc e (x ++ y) r ∙ ap (λ (t : Bits). e ++ t) (append_assoc x y r))

pub parameters_parts : (s : Settings) (m : List ℕ) (p : SliceParameters)
    → parameter_bits (major_version s) (parameters_by s m p) ≡ shape_bits s ++ (slice_parameter_bits p ++ matrix_bits (carried_matrix s m))
unfolding parameter_bits extended_bits shape_bits extension_of
parameters_parts s m p =
    sym (regroup (code_u s.wavelet_index) (code_u s.dwt_depth) (extension_of s) (code_u s.slices_x) (code_u s.slices_y) (slice_parameter_bits p ++ matrix_bits (carried_matrix s m)))

pub front_length : (s : Settings) → length (shape_bits s)
    ≡ length (code_u s.wavelet_index) + length (code_u s.dwt_depth) + length (extension_of s) + length (code_u s.slices_x) + length (code_u s.slices_y)
unfolding shape_bits
front_length s = simp length-append (omega arith)

pub bytes_of_parts : (s : Settings) (m : List ℕ) (p : SliceParameters)
    → parameter_bytes (major_version s) (parameters_by s m p) ≡ (length (shape_bits s) + length (slice_parameter_bits p) + length (matrix_bits (carried_matrix s m)) + 7) / 8
unfolding parameter_bytes
bytes_of_parts s m p =
    ap (λ (b : Bits). (length b + 7) / 8) (parameters_parts s m p)
    ∙ ap (λ (k : ℕ). (k + 7) / 8) (length-append (shape_bits s) (slice_parameter_bits p ++ matrix_bits (carried_matrix s m))
    ∙ ap (λ (k : ℕ). length (shape_bits s) + k) (length-append (slice_parameter_bits p) (matrix_bits (carried_matrix s m))) ∙ omega arith)

-- ---- the numerator
pub numerator_twice : (s : Settings) (m : List ℕ) → numerator_of s m ≡ numerator_after s m (numerator_after s m (target_of s.rate))
unfolding numerator_of numerator
numerator_twice s m = refl

-- ---- room
pub room_less : {o : List ℕ} {w : BitWriter} {n : ℕ} (k : ℕ) → Room o w n → k ≤ n → Room o w k
room_less k r h = record { sound = r.sound; room = omega (arith, r.room) }

pub room_first : {o : List ℕ} {w : BitWriter} (a b : Bits) → Room o w (length (a ++ b)) → Room o w (length a)
room_first a b r = room_less (length a) r (omega (arith, length-append a b))

pub room_rest : {o o' : List ℕ} {w w' : BitWriter} (a b : Bits) → Room o w (length (a ++ b)) → Wrote o w a o' w' → Room o' w' (length b)
room_rest a b r p = room_after (length b) r p (omega (arith, length-append a b))

-- ---- the header
abbrev pub start : BitWriter
start = start_at 0

pub is_start : {w : BitWriter} → (w.at ≡ 0) × ((w.pending ≡ 0) × (w.pending_bits ≡ 0)) → w ≡ start
is_start {w} h =
    let e : ◌≡◌ {A = BitWriter} (record { at = w.at; pending = w.pending; pending_bits = w.pending_bits }) start = rw (h.0, h.1.0, h.1.1) refl in
    e

pub start_room : (o : List ℕ) (k : ℕ) → k ≤ 8 * length o → Room o start k
start_room o k h = record { sound = start_sound 0; room = omega arith }

pub info-length : (k : PictureKind) (n prev : ℕ) → length (info_of k n prev) ≡ 104
unfolding info_of
info-length k n prev = simp (length-append, length-lit)

pub head_parts : (s : Settings) (n : ℕ) (t : Parameters)
    → head_bits s n t ≡ ((info_of s.kind n s.prev_unit_len ++ lit 32 s.picture_number) ++ parameter_bits (major_version s) t) ++ fill (length (parameter_bits (major_version s) t))
unfolding head_bits info_of
head_parts s n t = sym (simp append_assoc)

pub head-length : (k : PictureKind) (n prev v : ℕ) → length (info_of k n prev ++ lit 32 v) ≡ 136
head-length k n prev v = omega (arith, length-append (info_of k n prev) (lit 32 v), info-length k n prev, length-lit 32 v)

pub parameters_bytes : (v : ℕ) (t : Parameters) → parameter_bytes v t ≡ (length (parameter_bits v t) + 7) / 8
unfolding parameter_bytes
parameters_bytes v t = refl

-- the bits that fill the last of 17 bytes and l bits fit
last_fits : (x p l o : ℕ) → x * 8 + p ≡ 136 + l → 17 + (l + 7) / 8 ≤ o → x * 8 + p + (8 - p % 8) % 8 ≤ 8 * o
last_fits x p l o e h = omega arith

module _ {o o₁ : List ℕ} {w₁ : BitWriter} (h b : Bits) (e : length h ≡ 136) (fits : 17 + (length b + 7) / 8 ≤ length o) (p : Wrote o start (h ++ b) o₁ w₁) where
  -- what fills the last byte
  fills : padding w₁.pending_bits ≡ padding (length b)
  fills = let l = length-append h b in omega (arith, p.place, p.sound.part)

  pub align_room : Room o₁ w₁ (padding w₁.pending_bits)
  align_room =
      let l = length-append h b in
      record { sound = p.sound; room = rw p.size (last_fits w₁.at w₁.pending_bits (length b) (length o) (omega (arith, p.place)) fits) }

  module _ {o₂ : List ℕ} {w₂ : BitWriter} (q : Aligns o₁ w₁ o₂ w₂) where
    pub head_end : w₂.at ≡ 17 + (length b + 7) / 8
    head_end =
        let l = length-append h b in
        omega (arith, q.wrote.place, q.whole, p.place, fills, length-replicate (padding w₁.pending_bits) false)

    pub head_bytes : o₂ ≡ to_bytes ((h ++ b) ++ fill (length b)) ++ drop w₂.at o
    head_bytes =
        let bits : Bits = (h ++ b) ++ zero_bits (padding w₁.pending_bits) in
        let k : 0 + length (to_bytes bits) ≡ w₂.at =
        omega (arith, length-to_bytes bits, length-append (h ++ b) (zero_bits (padding w₁.pending_bits)), length-append h b, length-replicate (padding w₁.pending_bits) false, fills, head_end) in
        bytes_laid (start_sound 0) (wrote_then (start_sound 0) p q.wrote) refl (omega (arith, q.whole))
        ∙ laid_is o 0 (to_bytes bits) (omega (arith, k, head_end, fits))
        ∙ ap₂ (λ (j z : ℕ). to_bytes ((h ++ b) ++ zero_bits z) ++ drop j o) k fills
