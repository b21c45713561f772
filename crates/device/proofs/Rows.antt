-- Every starred row holds by computation.
use mathlib.Core.Path.{refl}
use lib.Count.{ones, ones_in}
use Rattle.frame.specs.Format.{stop_pulses, frame_length, has_parity, parity_bit}
use Rattle.frame.specs.Forecast.{pulses_left, ticks_left}
use Rattle.queue.specs.Queue.{is_full, count_put, places_put, no_bytes, put_byte, byte_rest, no_entries, entry_rest, entries_within, entry_errors}
use Rattle.device.specs.State.{fresh_of}
use Rattle.device.specs.Fifo.{capacity, trigger_level}
use Rattle.device.specs.Modem.{effective_levels, changes_after}
use Rattle.device.specs.Autoflow.{autoflow, auto_rts, held, settled_changes, settled_hold, settled_latches, settled}
use Rattle.device.specs.Ranges.{well_formed, part_of}
use Rattle.device.specs.Rbr.{rbr_read}
use Rattle.device.specs.Thr.{thr_write}
use Rattle.device.specs.Ier.{ier_write}
use Rattle.device.specs.Iir.{line_status, data_available, time_out, thr_empty, modem_status, interrupt_code, fifo_code, iir_read}
use Rattle.device.specs.Fcr.{fifo_after, turned, switched, clear_receive, clear_transmit, fcr_write}
use Rattle.device.specs.Lcr.{lcr_write}
use Rattle.device.specs.Mcr.{mcr_write}
use Rattle.device.specs.Lsr.{shown_errors, temt, lsr, clear_errors, lsr_read}
use Rattle.device.specs.Msr.{with_levels, msr_read}
use Rattle.device.specs.Scr.{scr_write}
use Rattle.device.specs.Divisor.{divisor_low_write, divisor_high_write}
use Rattle.device.specs.Calls.{read_register, write_register, done, read_of, write_of, modem_of}
use Rattle.device.specs.Forecast.{no_clock, held_back, forecast_number, forecast_of}
use Rattle.device.specs.Rows.{Rows}

pub rows : Rows
unfolding stop_pulses frame_length ones ones_in has_parity parity_bit pulses_left ticks_left is_full count_put places_put no_bytes put_byte byte_rest no_entries entry_rest entries_within entry_errors fresh_of capacity trigger_level effective_levels changes_after autoflow auto_rts held settled_changes settled_hold settled_latches settled well_formed part_of rbr_read thr_write ier_write line_status data_available time_out thr_empty modem_status interrupt_code fifo_code iir_read fifo_after turned switched clear_receive clear_transmit fcr_write lcr_write mcr_write shown_errors temt lsr clear_errors lsr_read with_levels msr_read scr_write divisor_low_write divisor_high_write read_register write_register done read_of write_of modem_of no_clock held_back forecast_number forecast_of
rows =
    record {
      row1_lsr = refl;
      row1_iir = refl;
      row2 = refl;
      row3 = refl;
      row4 = refl;
      row5_03 = refl;
      row5_04 = refl;
      row5_07 = refl;
      row5_1f = refl;
      row5_00 = refl;
      row6_even = refl;
      row6_odd = refl;
      row6_stick-even = refl;
      row6_stick-odd = refl;
      row7 = refl;
      row8 = refl;
      row9 = refl;
      row10_work = refl;
      row10_none = refl;
      row16_falls = refl;
      row16_rises = refl;
      row16_seven = refl;
      row16_eight = refl;
      row16_seven_written = refl;
      row16_eight-written = refl;
    }
