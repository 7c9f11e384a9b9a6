-- The limits of messages and stores, each once and by name, and what a message's length decides: its slots and its top index. Those of a call's
-- buffers stand with the call, that of a piece in packet's Frame.
use Rattle.std.specs.Prelude.{ℕ, suc, ◌+◌, ◌*◌, ◌-◌, ◌/◌, max, cond, eqb}

-- row 6: a length over 32,500 is too long
abbrev pub longest : ℕ
longest = 32500

-- row 21: a topic over 255 is too large
abbrev pub largest_topic : ℕ
largest_topic = 255

-- Push: data cut by 1,300
abbrev pub cut_by : ℕ
cut_by = 1300

-- row 11: a piece below 250 is short
abbrev pub least_piece : ℕ
least_piece = 250

-- Send wake: a piece that was sent is due again after 100 ms
abbrev pub resend_after : ℕ
resend_after = 100

-- Report: a second has 1,000 ms
abbrev pub second : ℕ
second = 1000

-- Stores: 16 + 8 × 328 + 1,380 × C bytes, C from 1 to 45
abbrev pub head_bytes : ℕ
head_bytes = 16

abbrev pub rec_count : ℕ
rec_count = 8

abbrev pub rec_bytes : ℕ
rec_bytes = 328

abbrev pub cell_bytes : ℕ
cell_bytes = 1380

abbrev pub most_cells : ℕ
most_cells = 45

-- row 28: "No source may hold more than 30" cells
abbrev pub most_of_source : ℕ
most_of_source = 30

abbrev pub store_bytes : ℕ → ℕ
store_bytes cells = head_bytes + rec_count * rec_bytes + cell_bytes * cells

-- ceil(n/d)
abbrev pub ceil : ℕ → ℕ → ℕ
ceil n d = (n + (d - 1)) / d

-- Init: slots become ceil(length/1,300)
abbrev pub slots_of : ℕ → ℕ
slots_of length = ceil length cut_by

-- Init: top is 0 for length 0, else ceil(length/250) − 1
abbrev pub top_of : ℕ → ℕ
top_of length = cond (eqb length 0) 0 (ceil length least_piece - 1)

-- Sound: slots .. to the larger of ceil(length/1,300) and top + 1
abbrev pub most_slots : ℕ → ℕ
most_slots length = max (slots_of length) (suc (top_of length))
