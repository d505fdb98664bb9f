pub mod RaysWritten
pub mod AcceptedLedger
