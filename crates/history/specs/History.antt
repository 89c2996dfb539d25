-- What a history of a right is, over any run. Time 0 is the start; step i leads from time i - 1 to time i.
-- Nothing here knows what an instruction is.
use Rattle.std.specs.Prelude.{ℕ, suc, ◌≤◌, ◌<◌, ◌≡◌, Bool, true, false, ◌||◌, List, [], ◌∷◌}

-- a single right
pub data Right : Type 0 where
  to_read to_write to_execute : Right

-- ---- what a run shows

pub record Run : Type 0 where
  -- at a time: the division holds the right on the cell
  pub holds : (time cell division : ℕ) → Right → Bool
  -- at a time: a grant of the right on the cell stands, from the maker, made out to the target
  pub offers : (time cell maker target : ℕ) → Right → Bool
  -- at a time: the cell's history begins
  pub begins : (time cell : ℕ) → Bool
  -- the step is an accepted receive on the cell, by the taker, of what the maker granted
  pub takes : (step cell taker maker : ℕ) → Bool
  -- the step is an accepted grant or transfer on the cell, by the maker
  pub makes : (step cell maker : ℕ) → Bool
  -- the division that the step names as its source, if it is a receive
  pub source : (step : ℕ) → ℕ

-- ---- an unbroken stretch: P at each time from s to t, and no Q at any step after s

pub record Stretch (P Q : ℕ → Bool) (s t : ℕ) : Type 0 where
  pub ordered : s ≤ t
  pub unbroken : (i : ℕ) → s ≤ i → i ≤ t → P i ≡ true
  pub undisturbed : (i : ℕ) → s < i → i ≤ t → Q i ≡ false

-- ---- how a right came to be held, and a grant to stand

mutual
  -- at time t the division d holds the right r on the cell c
  pub data Held (R : Run) (c : ℕ) (r : Right) : (t d : ℕ) → Type 0 where
    -- without a break since the cell's start, at s
    since_start : {t d : ℕ} (s : ℕ) → R.begins s c ≡ true → Stretch (λ i. R.holds i c d r) (λ i. R.begins i c) s t
        → Held R c r t d
    -- it last gained it at step n + 1, an accepted receive from m, of a grant of it that stood at time n, made out to d
    by_receive : {t d : ℕ} (n m : ℕ) → R.begins (suc n) c ≡ false → R.holds n c d r ≡ false
        → R.takes (suc n) c d m ≡ true → Stretch (λ i. R.holds i c d r) (λ i. R.begins i c) (suc n) t
        → Gift R c r n m d → Held R c r t d

  -- at time t a grant of the right r on the cell c stands, from m, made out to d
  pub data Gift (R : Run) (c : ℕ) (r : Right) : (t m d : ℕ) → Type 0 where
    -- it stood in the cell's starting tables, and m has made none since
    stood : {t m d : ℕ} (s : ℕ) → R.begins s c ≡ true
        → Stretch (λ i. R.offers i c m d r) (λ i. R.begins i c || R.makes i c m) s t → Gift R c r t m d
    -- m made it at step n + 1, and held the right at time n
    was_made : {t m d : ℕ} (n : ℕ) → R.begins (suc n) c ≡ false → R.makes (suc n) c m ≡ true
        → Stretch (λ i. R.offers i c m d r) (λ i. R.begins i c || R.makes i c m) (suc n) t → Held R c r n m
        → Gift R c r t m d

-- ---- the path of a history: who held and who gave, backwards

pub data Line : Type 0 where
  held : (division step : ℕ) → Line
  gift : (maker step : ℕ) → Line

module _ (R : Run) (c : ℕ) (r : Right) where
  unfoldable mutual
    pub held_lines : {t d : ℕ} → Held R c r t d → List Line
    held_lines {d = d} (since_start s b w) = held d s ∷ []
    held_lines {d = d} (by_receive n m b u x w g) = held d (suc n) ∷ gift_lines g

    pub gift_lines : {t m d : ℕ} → Gift R c r t m d → List Line
    gift_lines {m = m} (stood s b w) = gift m s ∷ []
    gift_lines {m = m} (was_made n b x w h) = gift m (suc n) ∷ held_lines h
