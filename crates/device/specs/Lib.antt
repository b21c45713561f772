-- The manual. The two readers read this folder against the sheet, in this order: what the state is and what the
-- settings mean, the line with RBR and LSR, which say where a received character and its errors go, the ranges of the
-- state, the other registers, the pins, and the calls.
-- A file uses earlier ones alone.
pub mod State
pub mod Fifo
pub mod Modem
pub mod Autoflow
pub mod Transmitter
pub mod Rbr
pub mod Lsr
pub mod Receiver
pub mod Idle
pub mod Tick
pub mod Ranges
pub mod Parts
pub mod Thr
pub mod Ier
pub mod Iir
pub mod Fcr
pub mod KeptErrors
pub mod Lcr
pub mod Parity
pub mod Divisor
pub mod Msr
pub mod Mcr
pub mod Scr
pub mod Pins
pub mod Calls
pub mod Forecast
pub mod Jump
pub mod Jumps
pub mod Rows
