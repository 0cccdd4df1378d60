-- The position of a member among others.
use Rattle.std.specs.Prelude.{⊤, ◌≡◌, ◌+◌, ℕ, List, length}
use Rattle.std.specs.Ordering.{nat_cmp}
use Rattle.std.specs.declared.cmp.Ordering.TheVariants.{Greater}
use Rattle.std.specs.Cmp.Lexicographic.{slice_cmp}
use Rattle.json.specs.Print.{escape}
use Rattle.serde_json.specs.Data.{Data, Members, no_members, member, put}
use Rattle.compact.specs.Ended.{ended_text}

-- the members of two maps, one after the other
abbrev pub joined : Members → Members → Members
joined no_members gs = gs
joined (member k d fs) gs = member k d (joined fs gs)

abbrev pub count_of : Members → ℕ
count_of no_members = 0
count_of (member k d ms) = 1 + count_of ms

-- a member of that key belongs at that index, with so many bytes of text before it
pub record HasSlot (k : List ℕ) (ms : Members) (index start : ℕ) : Type 0 where
  pub below : Members
  pub above : Members
  pub is : ms ≡ joined below above
  pub put_is : (d : Data) → put k d ms ≡ joined below (member k d above)
  pub index_is : count_of below ≡ index
  pub start_is : length (ended_text below) ≡ start

-- all keys are below that one
abbrev pub AllBelow : List ℕ → Members → Type 0
AllBelow k no_members = ⊤
AllBelow k (member l e ms) = (slice_cmp nat_cmp k l ≡ Greater) × AllBelow k ms

-- the last member is above all others
pub record LastOf (ms : Members) : Type 0 where
  pub front : Members
  pub l : List ℕ
  pub e : Data
  pub is : ms ≡ joined front (member l e no_members)
  pub below : AllBelow l front
  pub own : escape l ≡ l

abbrev pub HasLast : Members → Type 0
HasLast no_members = ⊤
HasLast (member k d ms) = LastOf (member k d ms)

pub record HasPlace (k : List ℕ) (d : Data) (ms : Members) (index start : ℕ) : Type 0 where
  pub slot : HasSlot k ms index start
  pub last_of : LastOf (put k d ms)
