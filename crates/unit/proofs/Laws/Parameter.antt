-- The transform parameters are read back as they were written.
use Rattle.std.specs.Prelude.{◌≡◌, refl, Bool, true, false, not, cond, ◌||◌, ◌&&◌, List, [], ◌∷◌, ℕ, ◌≤◌, ◌<◌, T, eqb, leb, length}
use Rattle.std.proofs.Common.{sym, subst, le→leb, eqb→eq}
use Rattle.std.proofs.Math.Option.{Option, none, some}
use Rattle.std.proofs.Math.Dec.{nleb→lt}
use Rattle.codewords.specs.Read.{Parser, give, ◌⊳◌}
use Rattle.codewords.specs.Laws.Read.{Reads, reads_give, reads_then, reads_last, reads_such, reads_bool, reads_uint}
use Rattle.quantiser.specs.AnnexD.{default_matrix}
use Rattle.unit.specs.declared.PictureKind.{PictureKind}
use Rattle.unit.specs.declared.PictureKind.TheVariants.{LowDelay, HighQuality}
use Rattle.unit.specs.Subbands.{subband_count}
use Rattle.unit.specs.Parameters.{SliceParameters, low_delay, high_quality, Parameters, flagged, extended_bits, slice_parameter_bits, codes_u, matrix_bits, parameter_bits}
use Rattle.unit.specs.Reader.{read_flagged, any_number, Extended, read_extended, read_slice_parameters, read_uints, is_some, read_matrix, read_parameters}
use Rattle.unit.proofs.Laws.Sound.{SliceFits, CarriedFits, Legal}

-- a flagged number, where what stands for it without a flag is the number itself
reads_flagged : (test : ℕ → Bool) (f : Bool) (n d : ℕ) → T (test n) → (f ≡ false → d ≡ n) → Reads (read_flagged test d) (flagged f n) n
unfolding read_flagged
reads_flagged test true n d t e = reads_then _ (reads_bool true) (reads_such test t (reads_uint n))
reads_flagged test false n d t e = rw (← e refl) (reads_then _ (reads_bool false) (reads_give d))

-- the flag is off only where the two are equal
off : (a b : ℕ) → not (eqb a b) ≡ false → b ≡ a
off a b e = by (eqb a b) refl e
  where
    by : (t : Bool) → eqb a b ≡ t → not t ≡ false → b ≡ a
    by true u v = sym (eqb→eq a b (subst T (sym u) tt))
    by false u v = absurd (subst T v tt)

-- 12.4.4 where the flag of a number says whether it differs from what stands for it
reads_pair : (t : Parameters) → t.wavelet_ho ≤ 6
    → Reads {A = Extended} (read_flagged (λ n. leb n 6) t.wavelet ⊳ λ h. read_flagged any_number 0 ⊳ λ k. give (record { wavelet = h; depth = k }))
    (extended_bits t) (record { wavelet = t.wavelet_ho; depth = t.depth_ho })
unfolding extended_bits
reads_pair t h =
    reads_then _ (reads_flagged (λ n. leb n 6) (not (eqb t.wavelet_ho t.wavelet)) t.wavelet_ho t.wavelet (le→leb t.wavelet_ho 6 h) (off t.wavelet_ho t.wavelet))
    (reads_last _ (reads_flagged any_number (not (eqb t.depth_ho 0)) t.depth_ho 0 tt (off t.depth_ho 0)) (reads_give _))

reads_extended : (version : ℕ) (t : Parameters) → t.wavelet_ho ≤ 6 → (version < 3 → (t.wavelet_ho ≡ t.wavelet) × (t.depth_ho ≡ 0))
    → Reads (read_extended version t.wavelet) (cond (leb 3 version) (extended_bits t) []) (record { wavelet = t.wavelet_ho; depth = t.depth_ho })
unfolding read_extended
reads_extended version t h l = by (leb 3 version) (λ u. l (nleb→lt 3 version u))
  where
    by : (b : Bool) → (T (not b) → (t.wavelet_ho ≡ t.wavelet) × (t.depth_ho ≡ 0))
        → Reads {A = Extended} (elim b as (λ z. Parser Extended) [
          | true ↦ read_flagged (λ n. leb n 6) t.wavelet ⊳ λ h. read_flagged any_number 0 ⊳ λ k. give (record { wavelet = h; depth = k })
          | false ↦ give (record { wavelet = t.wavelet; depth = 0 })
        ]) (cond b (extended_bits t) []) (record { wavelet = t.wavelet_ho; depth = t.depth_ho })
    by true g = reads_pair t h
    by false g = let e = g tt in rw (e.0, e.1) (reads_give _)

-- 12.4.5.2: the slice parameters are read back
reads_slice_parameters : (k : PictureKind) (p : SliceParameters) → SliceFits k p → Reads (read_slice_parameters k) (slice_parameter_bits p) p
reads_slice_parameters LowDelay (low_delay n d) h =
    reads_then _ (reads_uint n)
    (reads_last _ (reads_such _ (both (leb 1 d) (leb d n) (le→leb 1 d h.0) (le→leb d n h.1)) (reads_uint d)) (reads_give _))
  where
    both : (a b : Bool) → T a → T b → T (a && b)
    both true b x y = y
    both false b x y = absurd x
reads_slice_parameters LowDelay (high_quality p c) h = absurd h
reads_slice_parameters HighQuality (low_delay n d) h = absurd h
reads_slice_parameters HighQuality (high_quality p c) h =
    reads_then _ (reads_uint p)
    (reads_last _ (reads_such (leb 1) (le→leb 1 c h) (reads_uint c)) (reads_give _))

-- 12.4.5.3: matrix values are read back
reads_all : (vs : List ℕ) → Reads (read_uints (length vs)) (codes_u vs) vs
unfolding read_uints codes_u
reads_all [] = reads_give []
reads_all (v ∷ vs) = reads_then _ (reads_uint v) (reads_last _ (reads_all vs) (reads_give (v ∷ vs)))

reads_uints : (n : ℕ) (vs : List ℕ) → length vs ≡ n → Reads (read_uints n) (codes_u vs) vs
reads_uints n vs e = subst (λ (n : ℕ). Reads (read_uints n) (codes_u vs) vs) e (reads_all vs)

reads_matrix : (n : ℕ) (c d : Option (List ℕ)) → CarriedFits n c d → Reads (read_matrix (is_some d) n) (matrix_bits c) c
unfolding read_matrix
reads_matrix n (some vs) d h =
    reads_then _ (reads_such (λ f. f || is_some d) tt (reads_bool true)) (reads_last _ (reads_uints n vs h) (reads_give (some vs)))
reads_matrix n none none h = absurd h
reads_matrix n none (some vs) h = reads_then _ (reads_such (λ f. f || true) tt (reads_bool false)) (reads_give none)

-- 12.4.1: the transform parameters are read back
pub reads_parameters : (version : ℕ) (kind : PictureKind) (t : Parameters) → Legal version kind t → Reads (read_parameters kind version) (parameter_bits version t) t
unfolding read_parameters parameter_bits
reads_parameters version kind t l =
    reads_then _ (reads_such (λ n. leb n 6) (le→leb t.wavelet 6 l.wavelet) (reads_uint t.wavelet))
    (reads_then _ (reads_uint t.depth)
    (reads_then _ (reads_extended version t l.wavelet-ho l.plain)
    (reads_then _ (reads_such (leb 1) (le→leb 1 t.across l.across) (reads_uint t.across))
    (reads_then _ (reads_such (leb 1) (le→leb 1 t.down l.down) (reads_uint t.down))
    (reads_then _ (reads_slice_parameters kind t.slice_parameters l.slice_parameters)
    (reads_last _ (reads_matrix (subband_count t.depth_ho t.depth) t.matrix (default_matrix t.wavelet t.wavelet_ho t.depth t.depth_ho) l.matrix) (reads_give t)))))))
