-- What the operations on words mean on lists: `items` and `packed` undo each other, where each admission fits a word; dropping
-- words drops admissions, and those dropped are the ones that have aged; moving the words by the gap, and a store behind them,
-- notes one more; on-times added are the air time.
use Prim.Native.Nat.{ℕ, zero, suc, ◌+◌, ◌-◌, ◌*◌, ◌≤◌, ◌<◌}
use mathlib.Core.Path.{◌≡◌, refl, ap, sym, ◌∙◌}
use mathlib.Core.Bool.{true, cond}
use mathlib.Core.List.{List, [], ◌∷◌, ◌++◌, map}
use native.Mathlib.Omega.{arith}
use lib.Dec.{eqb}
use lib.ListN.{length, take, drop, set, length-append, length-map, length-drop}
use lib.Seq.{take-append_seam, drop-append_seam}
use borrow.Author.Tests.{eqb-true, le-leb}
use Rattle.rules.specs.Clock.{end_of_time}
use Rattle.rules.proofs.Cases.{split, on_test, on_cond, both}
use Rattle.rules.proofs.Profiles.{ontime_le}
use Rattle.rules.proofs.Tests.{tested}
use Rattle.packing.specs.Packing.{filled, all_are, is_unused}
use Rattle.packing.proofs.Packing.{length-filled, list_filled, set-filled, filled-padded}
use Rattle.model.specs.declared.Admission.{Admission}
use Rattle.model.specs.declared.Last.{Last}
use Rattle.model.specs.Claims.{All}
use Rattle.model.specs.Ledger.{full_age, spacing, places, young_at, is_young, young, air_of, is_recent, newest_is}
use Rattle.model.proofs.Aging.{AllNoted, still_young}
use Rattle.model.proofs.SoundLedger.{SoundLedger}
use Rattle.ledger.specs.declared.Ledger.{Ledger}
use Rattle.ledger.specs.Layout.{admission, unit, age_in, admission_in, word_of, Fitting, read_from, items, ledger_of, in_places}
use Rattle.ledger.specs.Layout.{packed, Packed, in_time, tidy, aged_in, moved_by, put_newest}
use Rattle.ledger.specs.Layout.{Movable, added, Timely, Forty}
use Rattle.ledger.proofs.Word.{age_read, word_read, fitting, word_moved, word_fits, length_read}
use Rattle.ledger.proofs.Sound.{InTime, words_of_lem, same_ledger}

-- the words of a list
abbrev pub words_of : (base : ℕ) → List Admission → List ℕ
words_of base es = map (λ (a : Admission). word_of base a) es

abbrev pub AllFitting : (base : ℕ) → List Admission → Type 0
AllFitting base es = All (λ (a : Admission). Fitting base a) es

-- what is read fits
pub read_fitting : (base : ℕ) (ws : List ℕ) → AllFitting base (read_from base ws)
read_fitting base [] = tt
read_fitting base (w ∷ ws) = (fitting base w, read_fitting base ws)

-- so does what the model's rules allow: none came after the last admission, and no on-time is above 4,000
fits_last : (profile now earliest : ℕ) (last : Last) (es : List Admission) → AllNoted profile now earliest es
    → newest_is last es ≡ true → AllFitting last.at es
unfolding newest_is
fits_last profile now earliest last [] h n = tt
fits_last profile now earliest last (a ∷ []) h n =
    let same = both (eqb a.at last.at) (eqb a.ontime last.ontime) n in
    ((omega (tested, same.0), omega (arith, ontime_le profile a.ontime h.0.ontime)), tt)
fits_last profile now earliest last (a ∷ b ∷ es) h n =
    let f = fits_last profile now (a.at + spacing) last (b ∷ es) h.1 n in
    ((omega (arith, f.0.0, h.1.0.late), omega (arith, ontime_le profile a.ontime h.0.ontime)), f)

none_fits : (base : ℕ) (es : List Admission) → eqb (length es) 0 ≡ true → AllFitting base es
none_fits base [] e = tt
none_fits base (a ∷ es) e = absurd (omega (arith, eqb-true (suc (length es)) 0 e))

pub sound_fitting : (profile now : ℕ) (last : Last) (es : List Admission) → SoundLedger profile now last es
    → AllFitting last.at es
sound_fitting profile now last es h =
    split (is_recent now last) (λ e. fits_last profile now 0 last es h.noted (rw e at h.newest))
    (λ e. none_fits last.at es (rw e at h.newest))

-- what is read came by the end of time, where the base did
pub read_timely : (base : ℕ) (ws : List ℕ) → base ≤ end_of_time → Timely (read_from base ws)
read_timely base [] h = tt
read_timely base (w ∷ ws) h = (omega arith, read_timely base ws h)

-- a list laid out and read again
read_words : (base : ℕ) (es : List Admission) → AllFitting base es → read_from base (words_of base es) ≡ es
read_words base [] h = refl
read_words base (a ∷ es) h = λ i. word_read base a h.0 i ∷ read_words base es h.1 i

pub words_in_time : (base : ℕ) (es : List Admission) → AllFitting base es
    → all_are (λ (w : ℕ). in_time base w) (words_of base es) ≡ true
unfolding all_are
words_in_time base [] h = refl
words_in_time base (a ∷ es) h =
    let e : age_in (word_of base a) ≤ base = omega (arith, age_read (base - a.at) a.ontime h.0.1) in
    rw (le-leb (age_in (word_of base a)) base e) (words_in_time base es h.1)

-- the first places hold the words
pub first_words : (base : ℕ) (es : List Admission) → take (length es) (in_places (words_of base es)) ≡ words_of base es
first_words base es =
    ap (λ (n : ℕ). take n (in_places (words_of base es))) (sym (length-map es (λ (a : Admission). word_of base a)))
    ∙ list_filled places 0 (words_of base es)

pub items-packed : (base : ℕ) (es : List Admission) → AllFitting base es → items base (packed base es) ≡ es
unfolding packed
items-packed base es h = ap (read_from base) (first_words base es) ∙ read_words base es h

pub packed-Packed : (base : ℕ) (es : List Admission) → AllFitting base es → Packed base (packed base es)
packed-Packed base es h = ap (packed base) (sym (items-packed base es h))

pub packed-forty : (base : ℕ) (es : List Admission) → length es ≤ places → Forty (packed base es).slots
unfolding packed
packed-forty base es h =
    length-filled places 0 (words_of base es) (omega (arith, length-map es (λ (a : Admission). word_of base a)))

pub packed-tidy : (base : ℕ) (es : List Admission) → AllFitting base es → length es ≤ places
    → tidy base (packed base es) ≡ true
unfolding tidy packed
packed-tidy base es f h =
    let m = length-map es (λ (a : Admission). word_of base a) in
    let p = rw m at (filled-padded places 0 is_unused refl (words_of base es) (omega arith)) in
    rw (p, first_words base es, words_in_time base es f)

-- nothing, whatever the base
pub packed_none : (base : ℕ) → packed base [] ≡ packed 0 []
unfolding packed
packed_none base = refl

pub items-none : (base : ℕ) → items base (packed 0 []) ≡ []
unfolding packed
items-none base = refl

-- without the k oldest
map-drop : {A B : Type 0} (f : A → B) (k : ℕ) (xs : List A) → map f (drop k xs) ≡ drop k (map f xs)
map-drop f zero xs = refl
map-drop f (suc k) [] = refl
map-drop f (suc k) (x ∷ xs) = map-drop f k xs

pub dropped : (base n k : ℕ) (ws : List ℕ) → n ≤ length ws → InTime base (take n ws)
    → ledger_of (n - k) (in_places (drop k (take n ws))) ≡ packed base (drop k (read_from base (take n ws)))
unfolding packed
dropped base n k ws m t =
    let l = read_from base (take n ws) in
    same_ledger _ _ (omega (arith, length-drop k l, length_read base n ws m))
    (ap in_places (sym (map-drop (λ (a : Admission). word_of base a) k l ∙ ap (drop k) (words_of_lem base (take n ws) t))))

-- those that have aged come first
pub aged_dropped : (profile now then earliest base : ℕ) (ws : List ℕ) → AllNoted profile now earliest (read_from base ws)
    → young then (read_from base ws) ≡ drop (aged_in then base ws) (read_from base ws)
unfolding young aged_in
aged_dropped profile now then earliest base [] h = refl
aged_dropped profile now then earliest base (w ∷ ws) h =
    let a = admission_in base w in
    let es = read_from base ws in
    on_test (λ u. cond u (a ∷ young then es) (young then es) ≡ drop (cond u 0 (1 + aged_in then base ws)) (a ∷ es))
    (is_young then a)
    (λ y. ap (λ (l : List Admission). a ∷ l) (still_young profile now (a.at + spacing) then es (omega tested) h.1))
    (λ y.
    let n : 1 + aged_in then base ws ≡ suc (aged_in then base ws) = omega arith in
    rw n (aged_dropped profile now then (a.at + spacing) base ws h.1))

pub aged-le : (then base : ℕ) (ws : List ℕ) → aged_in then base ws ≤ length ws
unfolding aged_in
aged-le then base [] = omega arith
aged-le then base (w ∷ ws) =
    on_test (λ u. cond u 0 (1 + aged_in then base ws) ≤ suc (length ws)) (young_at then (base - age_in w)) (λ e. omega arith)
    (λ e. omega (arith, aged-le then base ws))

-- those left are young, and fit as they did
pub young-young : (now : ℕ) (es : List Admission) → All (λ (a : Admission). now < a.at + full_age) (young now es)
unfolding young
young-young now [] = tt
young-young now (a ∷ es) =
    on_cond (All (λ (x : Admission). now < x.at + full_age)) (is_young now a) (λ e. (omega tested, young-young now es))
    (λ e. young-young now es)

pub young_fitting : (base now : ℕ) (es : List Admission) → AllFitting base es → AllFitting base (young now es)
unfolding young
young_fitting base now [] h = tt
young_fitting base now (a ∷ es) h =
    on_cond (AllFitting base) (is_young now a) (λ e. (h.0, young_fitting base now es h.1))
    (λ e. young_fitting base now es h.1)

-- one more, a gap later
map_back : {A B : Type 0} (f : A → B) (xs : List A) (x : A) → map f (xs ++ (x ∷ [])) ≡ map f xs ++ (f x ∷ [])
map_back f [] x = refl
map_back {B = B} f (y ∷ xs) x = ap (λ (l : List B). f y ∷ l) (map_back f xs x)

words_moved : (base now : ℕ) (es : List Admission) → base ≤ now → AllFitting base es
    → moved_by (now - base) (words_of base es) ≡ words_of now es
words_moved base now [] b h = refl
words_moved base now (a ∷ es) b h =
    λ i. word_moved base now a b h.0.0 i ∷ words_moved base now es b h.1 i

-- moved words in their places
places-moved : (gap : ℕ) (ws : List ℕ)
    → moved_by gap (take (length ws) (in_places ws)) ++ drop (length ws) (in_places ws) ≡ in_places (moved_by gap ws)
unfolding filled
places-moved gap ws =
    rw (take-append_seam, drop-append_seam, length-map ws (λ (w : ℕ). w + gap * unit))

abbrev pub noted_in : (gap ontime : ℕ) → Ledger → Ledger
noted_in gap ontime l = ledger_of (l.len + 1) (put_newest 1 l.len gap ontime l.slots)

pub noted-packed : (base now ontime : ℕ) (es : List Admission) → base ≤ now → AllFitting base es → length es < places
    → noted_in (now - base) ontime (packed base es) ≡ packed now (es ++ (admission now ontime ∷ []))
unfolding packed put_newest
noted-packed base now ontime es b f h =
    let ws = words_of base es in
    let m : length ws ≡ length es = length-map es (λ (a : Admission). word_of base a) in
    let m' : length (words_of now es) ≡ length es = length-map es (λ (a : Admission). word_of now a) in
    let z : word_of now (admission now ontime) ≡ ontime = omega arith in
    let moves :
    moved_by (now - base) (take (length es) (in_places ws)) ++ drop (length es) (in_places ws) ≡ in_places (words_of now es) =
    rw m at (places-moved (now - base) ws ∙ ap in_places (words_moved base now es b f)) in
    same_ledger _ _ (sym (length-append es (admission now ontime ∷ [])))
    (ap (λ (l : List ℕ). set l (length es) ontime) moves
    ∙ ap (λ (k : ℕ). set (in_places (words_of now es)) k ontime) (sym m')
    ∙ set-filled places 0 (words_of now es) ontime (omega arith)
    ∙ ap (λ (x : ℕ). in_places (words_of now es ++ (x ∷ []))) (sym z)
    ∙ ap in_places (sym (map_back (λ (a : Admission). word_of now a) es (admission now ontime))))

-- what is young fits 32 bits once it is moved
words_movable : (base now : ℕ) (es : List Admission) → base ≤ now → AllFitting base es
    → All (λ (a : Admission). now < a.at + full_age) es → Movable (now - base) (words_of base es)
words_movable base now [] b f y = tt
words_movable base now (a ∷ es) b f y =
    (word_fits base now a b f.0 y.0, words_movable base now es b f.1 y.1)

pub packed_movable : (base now : ℕ) (es : List Admission) → base ≤ now → AllFitting base es
    → All (λ (a : Admission). now < a.at + full_age) es
    → Movable (now - base) (take (packed base es).len (packed base es).slots)
unfolding packed
packed_movable base now es b f y = rw (first_words base es) (words_movable base now es b f y)

-- the air time
pub air_added : (base : ℕ) (ws : List ℕ) → air_of (read_from base ws) ≡ added ws
unfolding air_of added
air_added base [] = refl
air_added base (w ∷ ws) = omega (arith, air_added base ws)
