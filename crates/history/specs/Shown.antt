-- What a sequence of calls shows of rights and bytes: the run of document 01's rules.
use Rattle.std.specs.Prelude.{ℕ, zero, suc, ◌+◌, ◌/◌, ◌%◌, ◌≤◌, ◌<◌, ◌≡◌, List, Bool, true, false, ◌&&◌, length, get_or, ltb, eqb}
use Rattle.rules.specs.Numbers.{Tables, State, N, held, grant_of, rights_in, first_of, last_of, offset_of, mark_of}
use Rattle.rules.specs.Instructions.{Formed, well_formed, ill_formed, cell_at, place, grant_names, valid}
use Rattle.rules.specs.Calls.{Action, instruction, block_write, read_view, formed_in, performed}
use Rattle.rules.specs.declared.Instruction.{Instruction}
use Rattle.rules.specs.declared.Instruction.TheVariants.{Load, Store, Fetch, Switch, Protect, Grant, Receive, Transfer, Invalidate, Revalidate, Exclusive}
use Rattle.history.specs.History.{Right, to_read, to_write, to_execute, Run}

-- ---- at a time

-- whether the right is among the rights p
unfoldable pub has : Right → (p : ℕ) → Bool
has to_read p = eqb (p % 2) 1
has to_write p = eqb (p / 2 % 2) 1
has to_execute p = eqb (p / 4 % 2) 1

-- d holds the right on c
unfoldable pub holds_in : Tables → (c d : ℕ) → Right → Bool
holds_in t c d r = ltb c (N t) && ltb d t.M && has r (held t c d)

-- a grant of the right on c stands, from m, made out to d
unfoldable pub offers_in : Tables → (c m d : ℕ) → Right → Bool
offers_in t c m d r = ltb c (N t) && ltb m t.M && grant_names (grant_of t c m) d && has r (rights_in (grant_of t c m))

-- ---- at a step

-- what an instruction does with grants: it takes one, makes one, or neither
pub data Deed : Type 0 where
  taking : (x source : ℕ) → Deed
  making : (x : ℕ) → Deed
  neither : Deed

unfoldable pub deed_of : Instruction → Deed
deed_of (Load x) = neither
deed_of (Store x y) = neither
deed_of (Fetch x) = neither
deed_of (Switch x y) = neither
deed_of (Protect x y) = neither
deed_of (Grant x y z) = making x
deed_of (Receive x y) = taking x y
deed_of (Transfer x y z) = making x
deed_of (Invalidate x) = neither
deed_of (Revalidate x) = neither
deed_of (Exclusive x) = neither

unfoldable pub formed_deed : Formed → Deed
formed_deed (well_formed i) = deed_of i
formed_deed (ill_formed n) = neither

unfoldable pub deed_in : State → Action → Deed
deed_in s (instruction number x y z) = formed_deed (formed_in s number x y z)
deed_in s (block_write x bytes) = neither
deed_in s (read_view x n) = neither

unfoldable pub is_accepted : State → Action → Bool
is_accepted s a = eqb (performed s a).number 0

-- by d, on the cell that covers the address
unfoldable pub takes_by : State → Deed → (c d m : ℕ) → Bool
takes_by s (taking x source) c d m = eqb c (cell_at s.lent x) && eqb d s.registers.current && eqb m source
takes_by s (making x) c d m = false
takes_by s neither c d m = false

unfoldable pub makes_by : State → Deed → (c m : ℕ) → Bool
makes_by s (taking x source) c m = false
makes_by s (making x) c m = eqb c (cell_at s.lent x) && eqb m s.registers.current
makes_by s neither c m = false

unfoldable pub source_of : Deed → ℕ
source_of (taking x source) = source
source_of (making x) = 0
source_of neither = 0

-- ---- over time

module _ (calls : ℕ → Action) (start : State) where
  -- the state at a time: `calls n` is step n + 1
  abbrev pub state_at : ℕ → State
  state_at zero = start
  state_at (suc n) = (performed (state_at n) (calls n)).after

  -- every cell's history begins at the start
  abbrev pub begins_at : (time cell : ℕ) → Bool
  begins_at zero c = true
  begins_at (suc n) c = false

  abbrev pub takes_at : (step cell taker maker : ℕ) → Bool
  takes_at zero c d m = false
  takes_at (suc n) c d m = is_accepted (state_at n) (calls n) && takes_by (state_at n) (deed_in (state_at n) (calls n)) c d m

  abbrev pub makes_at : (step cell maker : ℕ) → Bool
  makes_at zero c m = false
  makes_at (suc n) c m = is_accepted (state_at n) (calls n) && makes_by (state_at n) (deed_in (state_at n) (calls n)) c m

  abbrev pub source_at : (step : ℕ) → ℕ
  source_at zero = 0
  source_at (suc n) = source_of (deed_in (state_at n) (calls n))

  abbrev pub shown : Run
  shown =
      record {
        holds = λ t c d r. holds_in (state_at t).lent c d r;
        offers = λ t c m d r. offers_in (state_at t).lent c m d r;
        begins = begins_at;
        takes = takes_at;
        makes = makes_at;
        source = source_at;
      }

-- ---- bytes

-- the call is a store or block write on the cell c, and p is among the places in memory that it writes
pub data Writes (s : State) (p : ℕ) : Action → (c : ℕ) → Type 0 where
  by_store : {number x y z : ℕ} (at v : ℕ) → formed_in s number x y z ≡ well_formed (Store at v)
      → p ≡ place s.lent (cell_at s.lent at) at → Writes s p (instruction number x y z) (cell_at s.lent at)
  by_block : {x : ℕ} {bytes : List ℕ} → place s.lent (cell_at s.lent x) x ≤ p
      → p < place s.lent (cell_at s.lent x) x + length bytes → Writes s p (block_write x bytes) (cell_at s.lent x)

-- the place p belongs to the cell c
pub record CoversPlace (t : Tables) (c p : ℕ) : Type 0 where
  pub cell : c < N t
  pub from : offset_of t c ≤ p
  pub to : p + first_of t c ≤ offset_of t c + last_of t c

-- the call is an accepted store or block write over p, from a division then current and holding write on the valid cell covering p
pub record Writer (s : State) (a : Action) (p : ℕ) : Type 0 where
  pub accepted : (performed s a).number ≡ 0
  pub cell : ℕ
  pub writes : Writes s p a cell
  pub covers : CoversPlace s.lent cell p
  pub marked : valid (mark_of s.lent cell) ≡ true
  pub right : holds_in s.lent cell s.registers.current to_write ≡ true

-- the byte at p, at a time
module _ (calls : ℕ → Action) (start : State) where
  abbrev pub byte_at : (time p : ℕ) → ℕ
  byte_at time p = get_or (state_at calls start time).lent.memory p 0

  -- p was last changed at step n + 1, after time u and not after time t
  pub record LastWritten (u t p : ℕ) : Type 0 where
    pub n : ℕ
    pub after : u ≤ n
    pub before : n < t
    pub writer : Writer (state_at calls start n) (calls n) p
    pub since : (i : ℕ) → n < i → i ≤ t → byte_at i p ≡ byte_at t p
