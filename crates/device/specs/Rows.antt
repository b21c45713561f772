-- The worked rows that document 01 marks with a star, as rows of one claim about the definitions. Each starts from the
-- fresh state, changed as it says; numbers of registers are hexadecimal.
use Rattle.std.specs.Prelude.{ℕ, ◌≡◌, replicate}
use Rattle.frame.specs.Format.{frame_length, parity_bit}
use Rattle.device.specs.declared.State.{State}
use Rattle.device.specs.declared.Forecasted.{Forecasted}
use Rattle.device.specs.State.{with_registers, with_lcr, with_baud, with_fifo, with_tx, with_frame, fresh_of}
use Rattle.device.specs.Calls.{read_of, write_of, modem_of}
use Rattle.device.specs.Forecast.{forecast_of}

-- the byte read at address a
abbrev pub reading : State → ℕ → ℕ
reading s a = (read_of s a).byte

-- the state after byte b is written at address a
abbrev pub written : State → ℕ → ℕ → State
written s a b = (write_of s a b).state

-- the fresh state with LCR, D and k, FIFO on or off, n bytes queued and L pulses left of a frame
abbrev pub sending : ℕ → ℕ → ℕ → ℕ → ℕ → ℕ → State
sending lcr d k fifo n l =
    with_frame
    (with_tx
    (with_fifo
    (with_baud (with_registers fresh_of (with_lcr fresh_of.registers lcr)) (record { divisor = d; k = k }))
    (record { enabled = fifo; size = 0; dma = 0; trigger = 0 }))
    (record { bytes = replicate 64 0; count = n }))
    (record { left = l; byte = 0; format = 0 })

-- the forecast's number and T
abbrev pub foretells : ℕ → ℕ → Forecasted
foretells number ticks = record { number = number; part = 0; ticks = ticks }

pub record Rows : Type 0 where
  -- 1 Fresh: LSR 60, IIR 01
  pub row1_lsr : reading fresh_of 5 ≡ 0x60
  pub row1_iir : reading fresh_of 2 ≡ 0x01
  -- 2 LCR 80, FCR 21: IIR E1
  pub row2 : reading (written (written fresh_of 3 0x80) 2 0x21) 2 ≡ 0xe1
  -- 3 LCR 00, FCR 21: C1
  pub row3 : reading (written (written fresh_of 3 0x00) 2 0x21) 2 ≡ 0xc1
  -- 4 FCR C0: IIR 01
  pub row4 : reading (written fresh_of 2 0xc0) 2 ≡ 0x01
  -- 5 F: LCR 03 160; 04 120; 07 176; 1F 192; 00 112
  pub row5_03 : frame_length 0x03 ≡ 160
  pub row5_04 : frame_length 0x04 ≡ 120
  pub row5_07 : frame_length 0x07 ≡ 176
  pub row5_1f : frame_length 0x1f ≡ 192
  pub row5_00 : frame_length 0x00 ≡ 112
  -- 6 Byte 41, eight bits: even parity 0, odd 1, LCR3,4,5 set 0, LCR3,5 set 1
  pub row6_even : parity_bit 0x41 0x1b ≡ 0
  pub row6_odd : parity_bit 0x41 0x0b ≡ 1
  pub row6_stick-even : parity_bit 0x41 0x3b ≡ 0
  pub row6_stick-odd : parity_bit 0x41 0x2b ≡ 1
  -- 7 L 0, n 1, LCR 03, k 1, D 1: T 161
  pub row7 : forecast_of (sending 0x03 1 1 0 1 0) ≡ foretells 0 161
  -- 8 FIFO on, L 0, n 3, LCR 03, k 5, D 12: 5765
  pub row8 : forecast_of (sending 0x03 12 5 1 3 0) ≡ foretells 0 5765
  -- 9 L 7, n 0, k 12, D 12: 84
  pub row9 : forecast_of (sending 0x00 12 12 0 0 7) ≡ foretells 0 84
  -- 10 D 0: n 1 gives 4; no work gives T 0
  pub row10_work : forecast_of (sending 0x00 0 0 0 1 0) ≡ foretells 4 0
  pub row10_none : forecast_of (sending 0x00 0 0 0 0 0) ≡ foretells 0 0
  -- 16 RI asserted to not: MSR 04; the other way 40. Address 7 accepted, 8 gives 2
  pub row16_falls : reading (modem_of (modem_of fresh_of 4).state 0).state 6 ≡ 0x04
  pub row16_rises : reading (modem_of fresh_of 4).state 6 ≡ 0x40
  pub row16_seven : (read_of fresh_of 7).number ≡ 0
  pub row16_eight : (read_of fresh_of 8).number ≡ 2
  pub row16_seven_written : (write_of fresh_of 7 0).number ≡ 0
  pub row16_eight-written : (write_of fresh_of 8 0).number ≡ 2
