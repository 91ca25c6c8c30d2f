mod KeyringReadings
mod Readings
